-- Linear sums over a polynomial's terms, with which every law of polynomials is shown.
--
--   total φ f            the sum of number times φ (monomial) over the terms of f
--   total-append, total-times, total-mul   of a sum, of a term times a polynomial, of a product
--   total_plus, total_scale, total-zero, total_ext, total_swap   of sums of functions; two sums change places
--   total_same           the same modulo p where the functions are
--   at K m, coef-total   a coefficient is a total
--   coef-append          the coefficients of a sum are the sums
--   equal_by             polynomials with the same totals are equal
use Prim.Native.Nat.{ℕ, ◌+◌, ◌*◌}
use mathlib.Core.Path.{◌≡◌, refl, sym}
use mathlib.Core.List.{[], ◌∷◌, ◌++◌}
use native.Mathlib.Omega.{arith}
use Rattle.algebra.specs.Residues.{Same}
use Rattle.algebra.specs.Monomials.{Monomials}
use Rattle.algebra.specs.Polynomials.{Term, Poly, only, coef, Equal, times, mul}
use Rattle.algebra.proofs.Residues.{same_eq, same_refl, same_trans, same_add, same_mul-left}

abbrev pub total : {K : Monomials} → (K.Mon → ℕ) → Poly K → ℕ
total φ [] = 0
total φ (u ∷ f) = u.num * φ u.mon + total φ f

-- 1 at m and 0 elsewhere
abbrev pub at : (K : Monomials) → K.Mon → K.Mon → ℕ
at K m n = only (K.decide n m) 1

only_scaled : {A : Type 0} (d : Dec A) (c : ℕ) → c * only d 1 ≡ only d c
only_scaled (yes a) c = omega arith
only_scaled (no n) c = omega arith

module _ {K : Monomials} where
  pub total-append : (φ : K.Mon → ℕ) (f g : Poly K) → total φ (f ++ g) ≡ total φ f + total φ g
  total-append φ [] g = omega arith
  total-append φ (u ∷ f) g = omega (arith, total-append φ f g)

  pub total_ext : (φ ψ : K.Mon → ℕ) (f : Poly K) → ((m : K.Mon) → φ m ≡ ψ m) → total φ f ≡ total ψ f
  total_ext φ ψ [] e = refl
  total_ext φ ψ (u ∷ f) e = rw (e u.mon, total_ext φ ψ f e)

  pub total_same : {p : ℕ} (φ ψ : K.Mon → ℕ) (f : Poly K) → ((m : K.Mon) → Same p (φ m) (ψ m)) → Same p (total φ f) (total ψ f)
  total_same φ ψ [] e = same_refl
  total_same φ ψ (u ∷ f) e = same_add (same_mul-left u.num (e u.mon)) (total_same φ ψ f e)

  pub total-zero : (f : Poly K) → total (λ m. 0) f ≡ 0
  total-zero [] = refl
  total-zero (u ∷ f) = omega (arith, total-zero f)

  pub total_scale : (c : ℕ) (φ : K.Mon → ℕ) (f : Poly K) → total (λ m. c * φ m) f ≡ c * total φ f
  total_scale c φ [] = omega arith
  total_scale c φ (u ∷ f) = omega (arith, total_scale c φ f)

  pub total_plus : (φ ψ : K.Mon → ℕ) (f : Poly K) → total (λ m. φ m + ψ m) f ≡ total φ f + total ψ f
  total_plus φ ψ [] = omega arith
  total_plus φ ψ (u ∷ f) = omega (arith, total_plus φ ψ f)

  pub total-times : (φ : K.Mon → ℕ) (t : Term K) (f : Poly K) → total φ (times t f) ≡ t.num * total (λ m. φ (K.mul t.mon m)) f
  total-times φ t [] = omega arith
  total-times φ t (u ∷ f) = omega (arith, total-times φ t f)

  pub total-mul : (φ : K.Mon → ℕ) (f g : Poly K) → total φ (mul f g) ≡ total (λ m. total (λ n. φ (K.mul m n)) g) f
  total-mul φ [] g = refl
  total-mul φ (t ∷ f) g = omega (arith, total-append φ (times t g) (mul f g), total-times φ t g, total-mul φ f g)

  pub total_swap : (χ : K.Mon → K.Mon → ℕ) (f g : Poly K) → total (λ m. total (χ m) g) f ≡ total (λ n. total (λ m. χ m n) f) g
  total_swap χ [] g = sym (total-zero g)
  total_swap χ (u ∷ f) g =
      omega (
        arith,
        total_plus (λ n. u.num * χ u.mon n) (λ n. total (λ m. χ m n) f) g,
        total_scale u.num (χ u.mon) g,
        total_swap χ f g,
      )

  pub coef-total : (f : Poly K) (m : K.Mon) → coef f m ≡ total (at K m) f
  coef-total [] m = refl
  coef-total (u ∷ f) m = omega (arith, only_scaled (K.decide u.mon m) u.num, coef-total f m)

  pub coef-append : (f g : Poly K) (m : K.Mon) → coef (f ++ g) m ≡ coef f m + coef g m
  coef-append [] g m = omega arith
  coef-append (u ∷ f) g m = omega (arith, coef-append f g m)

  pub equal_by : {p : ℕ} {f g : Poly K} → ((φ : K.Mon → ℕ) → Same p (total φ f) (total φ g)) → Equal p f g
  equal_by {p} {f} {g} e =
      record {
        equal = λ m. same_trans (same_eq (coef-total f m)) (same_trans (e (at K m)) (same_eq (sym (coef-total g m))));
      }
