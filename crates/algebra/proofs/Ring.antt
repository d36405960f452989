-- The ring laws, up to equal coefficients: f ++ g is the sum, mul f g the product, negated p f the negative.
--
--   sum_equal, sum_comm, sum_assoc, sum-cancel, sum-cancel-left, sum_negated   of the sum
--   mul_equal, mul_comm, mul_assoc, mul_sum, sum-mul, mul_one   of the product
--   negated_equal, mul-negated, total-negated, coef-negated   of the negative
--   difference-zero   polynomials whose difference is zero are equal
use Prim.Native.Nat.{ℕ, ◌-◌, ◌*◌, ◌<◌}
use mathlib.Core.Path.{◌≡◌, sym, ◌∙◌, ap}
use mathlib.Core.List.{[], ◌∷◌, ◌++◌}
use native.Mathlib.Omega.{arith}
use Rattle.algebra.specs.Monomials.{Monomials}
use Rattle.algebra.specs.Orders.{Order}
use Rattle.algebra.specs.Polynomials.{term, Poly, coef, Equal, mul, negated}
use Rattle.algebra.proofs.Residues.{same_eq, same_trans, same_add, same_mul-left, same_cancel, same_minus}
use Rattle.algebra.proofs.Totals.{total, at, coef-total, total-append, total_ext, total_same, total_plus, total-mul, total_swap, equal_by}
use Rattle.algebra.proofs.NormalForm.{equal_sym, equal_trans, equal_total}

pub total-negated : {K : Monomials} (p : ℕ) (φ : K.Mon → ℕ) (f : Poly K) → total φ (negated p f) ≡ (p - 1) * total φ f
total-negated p φ [] = omega arith
total-negated p φ (u ∷ f) = omega (arith, total-negated p φ f)

pub coef-negated : {K : Monomials} (p : ℕ) (f : Poly K) (m : K.Mon) → coef (negated p f) m ≡ (p - 1) * coef f m
coef-negated {K} p f m =
    coef-total (negated p f) m ∙ total-negated p (at K m) f ∙ ap (λ (x : ℕ). (p - 1) * x) (sym (coef-total f m))

module _ {K : Monomials} {p : ℕ} where
  pub sum_comm : (f g : Poly K) → Equal p (f ++ g) (g ++ f)
  sum_comm f g = equal_by (λ φ. same_eq (omega (arith, total-append φ f g, total-append φ g f)))

  pub sum_assoc : (f g h : Poly K) → Equal p ((f ++ g) ++ h) (f ++ (g ++ h))
  sum_assoc f g h =
      equal_by (λ φ. same_eq (omega (arith, total-append φ (f ++ g) h, total-append φ f g, total-append φ f (g ++ h), total-append φ g h)))

  pub sum_negated : 0 < p → (f : Poly K) → Equal p (f ++ negated p f) []
  sum_negated pos f =
      equal_by (λ φ. same_trans (same_eq (omega (arith, total-append φ f (negated p f), total-negated p φ f))) (same_minus (total φ f) pos))

  pub mul_comm : (f g : Poly K) → Equal p (mul f g) (mul g f)
  mul_comm f g =
      equal_by
      (λ φ. same_eq
      (total-mul φ f g
      ∙ total_swap (λ m n. φ (K.mul m n)) f g
      ∙ total_ext _ _ g (λ n. total_ext _ _ f (λ m. ap φ (K.mul_comm m n)))
      ∙ sym (total-mul φ g f)))

  pub mul_assoc : (f g h : Poly K) → Equal p (mul (mul f g) h) (mul f (mul g h))
  mul_assoc f g h =
      equal_by
      (λ φ. same_eq
      (total-mul φ (mul f g) h
      ∙ total-mul (λ m. total (λ n. φ (K.mul m n)) h) f g
      ∙ total_ext _ _ f (λ a. total_ext _ _ g (λ b. total_ext _ _ h (λ c. ap φ (K.mul_assoc a b c))) ∙ sym (total-mul (λ n. φ (K.mul a n)) g h))
      ∙ sym (total-mul φ f (mul g h))))

  pub mul_sum : (f g h : Poly K) → Equal p (mul f (g ++ h)) (mul f g ++ mul f h)
  mul_sum f g h =
      equal_by
      (λ φ. same_eq
      (total-mul φ f (g ++ h)
      ∙ total_ext _ _ f (λ m. total-append (λ n. φ (K.mul m n)) g h)
      ∙ omega (
        arith,
        total_plus (λ m. total (λ n. φ (K.mul m n)) g) (λ m. total (λ n. φ (K.mul m n)) h) f,
        total-mul φ f g,
        total-mul φ f h,
        total-append φ (mul f g) (mul f h),
      )))

  pub sum-mul : (f g h : Poly K) → Equal p (mul (f ++ g) h) (mul f h ++ mul g h)
  sum-mul f g h =
      equal_by
      (λ φ. same_eq
      (omega (
        arith,
        total-mul φ (f ++ g) h,
        total-append (λ m. total (λ n. φ (K.mul m n)) h) f g,
        total-mul φ f h,
        total-mul φ g h,
        total-append φ (mul f h) (mul g h),
      )))

  pub mul_one : (f : Poly K) → Equal p (mul (term K.one 1 ∷ []) f) f
  mul_one f =
      equal_by
      (λ φ. same_eq
      (omega (
        arith,
        total-mul φ (term K.one 1 ∷ []) f,
        total_ext (λ n. φ (K.mul K.one n)) φ f (λ n. ap φ (K.one_mul n)),
      )))

  pub mul-negated : (f g : Poly K) → Equal p (mul (negated p f) g) (negated p (mul f g))
  mul-negated f g =
      equal_by
      (λ φ. same_eq
      (total-mul φ (negated p f) g
      ∙ total-negated p (λ m. total (λ n. φ (K.mul m n)) g) f
      ∙ ap (λ (x : ℕ). (p - 1) * x) (sym (total-mul φ f g))
      ∙ sym (total-negated p φ (mul f g))))

-- Sums, products and negatives of equal polynomials are equal

module _ {K : Monomials} (O : Order K) {p : ℕ} (pos : 0 < p) where
  pub sum_equal : {f f' g g' : Poly K} → Equal p f f' → Equal p g g' → Equal p (f ++ g) (f' ++ g')
  sum_equal {f} {f'} {g} {g'} d e =
      equal_by
      (λ φ. same_trans (same_eq (total-append φ f g))
      (same_trans (same_add (equal_total O pos φ d) (equal_total O pos φ e)) (same_eq (sym (total-append φ f' g')))))

  pub mul_equal : {f f' g g' : Poly K} → Equal p f f' → Equal p g g' → Equal p (mul f g) (mul f' g')
  mul_equal {f} {f'} {g} {g'} d e =
      equal_by
      (λ φ. same_trans (same_eq (total-mul φ f g))
      (same_trans (equal_total O pos (λ m. total (λ n. φ (K.mul m n)) g) d)
      (same_trans (total_same _ _ f' (λ m. equal_total O pos (λ n. φ (K.mul m n)) e)) (same_eq (sym (total-mul φ f' g'))))))

  pub negated_equal : {f g : Poly K} → Equal p f g → Equal p (negated p f) (negated p g)
  negated_equal {f} {g} e =
      equal_by
      (λ φ. same_trans (same_eq (total-negated p φ f))
      (same_trans (same_mul-left (p - 1) (equal_total O pos φ e)) (same_eq (sym (total-negated p φ g)))))

  pub sum-cancel : {f g : Poly K} (h : Poly K) → Equal p (f ++ h) (g ++ h) → Equal p f g
  sum-cancel {f} {g} h e =
      equal_by
      (λ φ. same_cancel (total φ h)
      (same_trans (same_eq (sym (total-append φ f h))) (same_trans (equal_total O pos φ e) (same_eq (total-append φ g h)))))

  pub sum-cancel-left : {f g : Poly K} (h : Poly K) → Equal p (h ++ f) (h ++ g) → Equal p f g
  sum-cancel-left {f} {g} h e = sum-cancel h (equal_trans (sum_comm f h) (equal_trans e (sum_comm h g)))

  pub difference-zero : (f g : Poly K) → Equal p (f ++ negated p g) [] → Equal p f g
  difference-zero f g e = sum-cancel (negated p g) (equal_trans e (equal_sym (sum_negated pos g)))
