-- Leads of products, and the uniqueness of division.
--
--   normal_tail              what follows the lead of a normal polynomial is normal
--   lead-nonzero             the number of a normal polynomial's lead is not the same as 0
--   times_below, mul_below   products of smaller monomials are smaller
--   lead-mul                 the lead of a product is the product of the leads
--   mul-lead-coef            a product of nonzero polynomials has a coefficient at the product of the leads
--   multiple_zero            a multiple of g that has no term divisible by g's lead is zero
--   division_unique          f ≡ q · g + r with no monomial of r divisible by g's lead: the only such pair, against any lists q', r'
use Prim.Native.Nat.{ℕ, zero, suc, ◌+◌, ◌-◌, ◌*◌, ◌%◌, ◌<◌, ◌≤◌}
use mathlib.Core.Path.{◌≡◌, refl, sym, ◌∙◌, ap, subst}
use mathlib.Core.List.{[], ◌∷◌, ◌++◌}
use mathlib.Core.Logic.{⊎_elim}
use native.Mathlib.Nat.{pos_of_ne-zero, zero-mod, add-zero}
use native.Mathlib.Omega.{arith}
use Rattle.algebra.specs.Residues.{Same, Prime}
use Rattle.algebra.specs.Monomials.{Monomials}
use Rattle.algebra.specs.Orders.{Order}
use Rattle.algebra.specs.Polynomials.{Term, term, Poly, coef, Equal, NoMultiple, times, mul, negated, keep, norm, Below, Falling, Normal}
use Rattle.algebra.proofs.Residues.{same_eq, same_refl, same_sym, same_trans, same_add, same_below, same_minus}
use Rattle.algebra.proofs.Primes.{euclid}
use Rattle.algebra.proofs.NormalForm.{below_trans, norm_normal, norm_equal, equal_refl, equal_sym, equal_trans, extract, lead-coef}
use Rattle.algebra.proofs.All.{all_append}
use Rattle.algebra.proofs.Ring.{sum_equal, sum-mul, sum-cancel-left, difference-zero, mul_equal, mul-negated, coef-negated}
use Rattle.algebra.proofs.Totals.{coef-append}

pub prime_positive : {p : ℕ} → Prime p → 0 < p
prime_positive P = let h : 2 ≤ _ = P.two in omega arith

module _ {K : Monomials} {O : Order K} {p : ℕ} where
  pub normal_tail : (u : Term K) (f : Poly K) → Normal O p (u ∷ f) → Normal O p f
  normal_tail u f n = record { falling = n.falling.1; reduced = n.reduced.2 }

  pub lead-nonzero : (u : Term K) (f : Poly K) → Normal O p (u ∷ f) → Same p u.num 0 → ⊥
  lead-nonzero u f n e =
      let h : 0 < u.num = n.reduced.0 in
      let k : u.num < p = n.reduced.1 in
      let z : u.num ≡ 0 = same_below k (omega arith) e in
      omega arith

module _ {K : Monomials} (O : Order K) where
  pub times_below : (t : Term K) (m : K.Mon) (f : Poly K) → Below O m f → Below O (K.mul t.mon m) (times t f)
  times_below t m [] b = tt
  times_below t m (u ∷ f) b = (O.grows t.mon u.mon m b.0, times_below t m f b.1)

  -- a smaller monomial times one that is not greater
  grows_left : (a b c : K.Mon) → O.less a b → O.less (K.mul a c) (K.mul b c)
  grows_left a b c h =
      subst (λ x. O.less x (K.mul b c)) (K.mul_comm c a)
      (subst (λ x. O.less (K.mul c a) x) (K.mul_comm c b) (O.grows c a b h))

  pub mul_below : (m : K.Mon) (u : Term K) (f g : Poly K) → Below O m f → Falling O (u ∷ g) → Below O (K.mul m u.mon) (mul f (u ∷ g))
  mul_below m u [] g b d = tt
  mul_below m u (t ∷ f) g b d =
      let h : O.less (K.mul t.mon u.mon) (K.mul m u.mon) = grows_left t.mon m u.mon b.0 in (
        h,
        all_append (λ n. O.less n (K.mul m u.mon)) (times t g) (mul f (u ∷ g))
            (below_trans O (K.mul t.mon u.mon) (K.mul m u.mon) h (times t g) (times_below t u.mon g d.0))
            (mul_below m u f g b.1 d),
      )

pub keep_positive : {K : Monomials} (m : K.Mon) (c : ℕ) (f : Poly K) → 0 < c → keep m c f ≡ term m c ∷ f
keep_positive m zero f h = absurd (omega arith)
keep_positive m (suc c) f h = refl

module _ {K : Monomials} (O : Order K) {p : ℕ} (P : Prime p) where
  product-nonzero : (t u : Term K) (f g : Poly K) → Normal O p (t ∷ f) → Normal O p (u ∷ g) → 0 < t.num * u.num % p
  product-nonzero t u f g nf ng =
      pos_of_ne-zero
      (λ e. ⊎_elim (lead-nonzero t f nf) (lead-nonzero u g ng) (euclid P t.num u.num (record { same = e ∙ sym (zero-mod p) })))

  pub lead-mul : (t u : Term K) (f g : Poly K) → Normal O p (t ∷ f) → Normal O p (u ∷ g) →
      norm O p (mul (t ∷ f) (u ∷ g)) ≡ term (K.mul t.mon u.mon) (t.num * u.num % p) ∷ norm O p (times t g ++ mul f (u ∷ g))
  lead-mul t u f g nf ng =
      extract O (prime_positive P) (K.mul t.mon u.mon) (t.num * u.num) (times t g ++ mul f (u ∷ g)) equal_refl
      (all_append (λ n. O.less n (K.mul t.mon u.mon)) (times t g) (mul f (u ∷ g))
      (times_below O t u.mon g ng.falling.0)
      (mul_below O t.mon u f g nf.falling.0 ng.falling))
      ∙ keep_positive _ _ _ (product-nonzero t u f g nf ng)

  -- a product of normal, nonzero polynomials has a coefficient at the product of the leads
  pub mul-lead-coef : (t u : Term K) (f g : Poly K) → Normal O p (t ∷ f) → Normal O p (u ∷ g) → Same p (coef (mul (t ∷ f) (u ∷ g)) (K.mul t.mon u.mon)) 0 → ⊥
  mul-lead-coef t u f g nf ng e =
      let v = term {K = K} (K.mul t.mon u.mon) (t.num * u.num % p) in
      let h = norm O p (times t g ++ mul f (u ∷ g)) in
      let n : Normal O p (v ∷ h) = subst (Normal O p) (lead-mul t u f g nf ng) (norm_normal O (prime_positive P) (mul (t ∷ f) (u ∷ g))) in
      lead-nonzero v h n
      (same_trans (same_eq (sym (lead-coef O v h n.falling.0)))
      (same_trans (same_eq (ap (λ (k : Poly K). coef k v.mon) (sym (lead-mul t u f g nf ng))))
      (same_trans ((norm_equal O (prime_positive P) (mul (t ∷ f) (u ∷ g))).equal v.mon) e)))

  -- A multiple of g that has no term divisible by g's lead is zero
  pub multiple_zero : (u : Term K) (g : Poly K) → Normal O p (u ∷ g) → (d : Poly K) → NoMultiple p u.mon (mul d (u ∷ g)) → Equal p d []
  multiple_zero u g ng d z = equal_trans (equal_sym (norm_equal O (prime_positive P) d)) (go (norm O p d) refl (norm_normal O (prime_positive P) d))
    where
      go : (k : Poly K) → norm O p d ≡ k → Normal O p k → Equal p k []
      go [] e n = equal_refl
      go (t ∷ k) e n =
          absurd
          (mul-lead-coef t u k g n ng
          (same_trans
          ((mul_equal O (prime_positive P) (equal_trans (subst (λ h. Equal p h (norm O p d)) e equal_refl) (norm_equal O (prime_positive P) d)) equal_refl).equal (K.mul t.mon u.mon))
          (subst (λ x. Same p (coef (mul d (u ∷ g)) x) 0) (K.mul_comm u.mon t.mon) (z.none t.mon))))

  pub division_unique : (u : Term K) (g : Poly K) → Normal O p (u ∷ g) → (q r q' r' : Poly K) → Equal p (mul q (u ∷ g) ++ r) (mul q' (u ∷ g) ++ r') →
      NoMultiple p u.mon r → NoMultiple p u.mon r' → Equal p q q' × Equal p r r'
  division_unique u g ng q r q' r' e zr zr' = (same_q, sum-cancel-left O pos (mul q' (u ∷ g)) (equal_trans (sum_equal O pos (mul_equal O pos (equal_sym same_q) equal_refl) equal_refl) e))
    where
      pos : 0 < p
      pos = prime_positive P

      difference : Poly K
      difference = q ++ negated p q'

      product : (m : K.Mon) → Same p (coef (mul difference (u ∷ g)) m) (coef (mul q (u ∷ g)) m + (p - 1) * coef (mul q' (u ∷ g)) m)
      product m =
          same_trans ((sum-mul q (negated p q') (u ∷ g)).equal m)
          (same_trans (same_eq (coef-append (mul q (u ∷ g)) (mul (negated p q') (u ∷ g)) m))
          (same_add same_refl (same_trans ((mul-negated q' (u ∷ g)).equal m) (same_eq (coef-negated p (mul q' (u ∷ g)) m)))))

      -- where neither remainder has a coefficient, the two products have the same
      products : (m : K.Mon) → Same p (coef r m) 0 → Same p (coef r' m) 0 → Same p (coef (mul q (u ∷ g)) m) (coef (mul q' (u ∷ g)) m)
      products m z z' =
          same_trans (same_sym (same_trans (same_add same_refl z) (same_eq (add-zero _))))
          (same_trans (same_eq (sym (coef-append (mul q (u ∷ g)) r m)))
          (same_trans (e.equal m)
          (same_trans (same_eq (coef-append (mul q' (u ∷ g)) r' m)) (same_trans (same_add same_refl z') (same_eq (add-zero _))))))

      none : NoMultiple p u.mon (mul difference (u ∷ g))
      none =
          record {
            none =
                λ d. let m = K.mul u.mon d in
                same_trans (product m)
                (same_trans (same_add (products m (zr.none d) (zr'.none d)) same_refl) (same_minus (coef (mul q' (u ∷ g)) m) pos));
          }

      same_q : Equal p q q'
      same_q = difference-zero O pos q q' (multiple_zero u g ng difference none)
