-- Largest weights of products: in each letter, and in total degree, largest degrees add.
--
--   largest_all       no monomial weighs more than the largest weight
--   largest_most      a bound for every monomial bounds the largest weight
--   largest-at        no monomial that has a coefficient weighs more than the largest weight
--   largest_bound     a bound for every monomial that has a coefficient bounds the largest weight of a normal polynomial
--   largest_equal     equal normal polynomials have one largest weight, whatever their orders
--   not_zero          a normal polynomial with a term is not equal to zero
--   largest-mul       the largest weight of a product of nonzero polynomials is the sum of the largest weights
--   factor_weight     where h · g ≡ f, a monomial of h weighs at most what is left of f's largest weight beside g's
use Prim.Native.Nat.{ℕ, ◌+◌, ◌<◌, ◌≤◌, max}
use mathlib.Core.Path.{◌≡◌, refl, sym, ◌∙◌, ap, subst}
use mathlib.Core.List.{[], ◌∷◌}
use mathlib.Core.Logic.{inl, inr}
use native.Mathlib.Nat.{max-le, le-max_left, le-max_right, le_trans, le_antisymm}
use native.Mathlib.Omega.{arith}
use Rattle.algebra.specs.Residues.{Same, Prime}
use Rattle.algebra.specs.Monomials.{Monomials}
use Rattle.algebra.specs.Orders.{Order, Weight, Weighted, Then}
use Rattle.algebra.specs.Polynomials.{Term, Poly, only, coef, Equal, mul, largest, norm, All, Below, Normal}
use Rattle.algebra.proofs.Residues.{same_eq, same_sym, same_trans}
use Rattle.algebra.proofs.NormalForm.{below_coef, lead-coef, norm_normal, norm_equal, norm_unique, norm_self, equal_refl, equal_sym, equal_trans}
use Rattle.algebra.proofs.All.{all_map}
use Rattle.algebra.proofs.Ring.{mul_equal}
use Rattle.algebra.proofs.Leads.{prime_positive, normal_tail, lead-nonzero, lead-mul}

module _ {K : Monomials} (w : K.Mon → ℕ) where
  pub largest_all : (f : Poly K) → All (λ m. w m ≤ largest w f) f
  largest_all [] = tt
  largest_all (u ∷ f) = (
    le-max_left (w u.mon) (largest w f),
    all_map {P = λ m. w m ≤ largest w f} {Q = λ m. w m ≤ max (w u.mon) (largest w f)} (λ m h. le_trans h (le-max_right (w u.mon) (largest w f))) f (largest_all f),
  )

  pub largest_most : (b : ℕ) (f : Poly K) → All (λ m. w m ≤ b) f → largest w f ≤ b
  largest_most b [] a = omega arith
  largest_most b (u ∷ f) a = max-le a.0 (largest_most b f a.1)

  pub largest-at : (f : Poly K) (m : K.Mon) → (coef f m ≡ 0 → ⊥) → w m ≤ largest w f
  largest-at [] m h = absurd (h refl)
  largest-at (u ∷ f) m h = go (K.decide u.mon m) h (largest-at f m)
    where
      go : (d : Dec (u.mon ≡ m)) → (only d u.num + coef f m ≡ 0 → ⊥) → ((coef f m ≡ 0 → ⊥) → w m ≤ largest w f) → w m ≤ max (w u.mon) (largest w f)
      go (yes e) h rest = subst (λ x. w x ≤ max (w u.mon) (largest w f)) e (le-max_left (w u.mon) (largest w f))
      go (no n) h rest = le_trans (rest (λ z. h (omega arith))) (le-max_right (w u.mon) (largest w f))

  pub largest_bound : (O : Order K) (p b : ℕ) (f : Poly K) → Normal O p f → ((m : K.Mon) → (Same p (coef f m) 0 → ⊥) → w m ≤ b) → largest w f ≤ b
  largest_bound O p b [] n h = omega arith
  largest_bound O p b (u ∷ f) n h =
      max-le
      (h u.mon (λ z. lead-nonzero u f n (same_trans (same_eq (sym (lead-coef O u f n.falling.0))) z)))
      (largest_bound O p b f (normal_tail u f n) (λ m z. go m z (K.decide u.mon m) (h m)))
    where
      go : (m : K.Mon) → (Same p (coef f m) 0 → ⊥) → (d : Dec (u.mon ≡ m)) → ((Same p (only d u.num + coef f m) 0 → ⊥) → w m ≤ b) → w m ≤ b
      go m z (yes e) k = absurd (z (same_eq (below_coef O m f (subst (λ x. Below O x f) e n.falling.0))))
      go m z (no d) k = k (λ s. z (same_trans (same_eq (omega arith)) s))

  pub largest_equal : (O O' : Order K) (p : ℕ) (f g : Poly K) → Normal O p f → Normal O' p g → Equal p f g → largest w f ≡ largest w g
  largest_equal O O' p f g nf ng e =
      le_antisymm
      (largest_bound O p (largest w g) f nf (λ m h. largest-at g m (λ z. h (same_trans (e.equal m) (same_eq z)))))
      (largest_bound O' p (largest w f) g ng (λ m h. largest-at f m (λ z. h (same_trans (same_sym (e.equal m)) (same_eq z)))))

pub not_zero : {K : Monomials} (O : Order K) {p : ℕ} (u : Term K) (f : Poly K) → Normal O p (u ∷ f) → Equal p (u ∷ f) [] → ⊥
not_zero O u f n e =
    lead-nonzero u f n (same_trans (same_eq (sym (lead-coef O u f n.falling.0))) (e.equal u.mon))

module _ {K : Monomials} (O : Order K) (w : Weight K) where
  heavy : {x y : ℕ} {R : Type 0} → Then x y R → x ≤ y
  heavy (inl h) = omega arith
  heavy (inr h) = omega (arith, h.0)

  below_largest : (m : K.Mon) (f : Poly K) → Below (Weighted O w) m f → largest w.weigh f ≤ w.weigh m
  below_largest m [] b = omega arith
  below_largest m (u ∷ f) b = max-le (heavy b.0) (below_largest m f b.1)

  lead-largest : {p : ℕ} (u : Term K) (f : Poly K) → Normal (Weighted O w) p (u ∷ f) → largest w.weigh (u ∷ f) ≡ w.weigh u.mon
  lead-largest u f n = omega (arith, below_largest u.mon f n.falling.0)

  pub largest-mul : {p : ℕ} → Prime p → (t u : Term K) (f g : Poly K) → Normal O p (t ∷ f) → Normal O p (u ∷ g) →
      largest w.weigh (norm O p (mul (t ∷ f) (u ∷ g))) ≡ largest w.weigh (t ∷ f) + largest w.weigh (u ∷ g)
  largest-mul {p} P t u f g nf ng =
      go (norm W p (t ∷ f)) (norm W p (u ∷ g)) (norm_normal W pos (t ∷ f)) (norm_normal W pos (u ∷ g)) (norm_equal W pos (t ∷ f)) (norm_equal W pos (u ∷ g))
    where
      W : Order K
      W = Weighted O w

      pos : 0 < p
      pos = prime_positive P

      go : (a b : Poly K) → Normal W p a → Normal W p b → Equal p a (t ∷ f) → Equal p b (u ∷ g) →
          largest w.weigh (norm O p (mul (t ∷ f) (u ∷ g))) ≡ largest w.weigh (t ∷ f) + largest w.weigh (u ∷ g)
      go [] b na nb ea eb = absurd (not_zero O t f nf (equal_sym ea))
      go (a ∷ f') [] na nb ea eb = absurd (not_zero O u g ng (equal_sym eb))
      go (a ∷ f') (b ∷ g') na nb ea eb =
          let product : Normal W p (norm W p (mul (a ∷ f') (b ∷ g'))) = norm_normal W pos (mul (a ∷ f') (b ∷ g')) in
          largest_equal w.weigh O W p _ _ (norm_normal O pos (mul (t ∷ f) (u ∷ g))) product
          (equal_trans (norm_equal O pos (mul (t ∷ f) (u ∷ g)))
          (equal_trans (mul_equal O pos (equal_sym ea) (equal_sym eb)) (equal_sym (norm_equal W pos (mul (a ∷ f') (b ∷ g'))))))
          ∙ ap (largest w.weigh) (lead-mul W P a b f' g' na nb)
          ∙ lead-largest _ _ (subst (Normal W p) (lead-mul W P a b f' g' na nb) product)
          ∙ w.adds a.mon b.mon
          ∙ (λ i.
          (sym (lead-largest a f' na) ∙ largest_equal w.weigh W O p (a ∷ f') (t ∷ f) na nf ea) i
          + (sym (lead-largest b g' nb) ∙ largest_equal w.weigh W O p (b ∷ g') (u ∷ g) nb ng eb) i)

  pub factor_weight : {p : ℕ} → Prime p → (f h : Poly K) (u : Term K) (g : Poly K) → Normal O p f → Normal O p (u ∷ g) → Equal p f (mul h (u ∷ g)) →
      (m : K.Mon) → (Same p (coef h m) 0 → ⊥) → w.weigh m + largest w.weigh (u ∷ g) ≤ largest w.weigh f
  factor_weight {p} P f h u g nf ng e m c = go (norm O p h) refl (norm_normal O pos h)
    where
      pos : 0 < p
      pos = prime_positive P

      go : (k : Poly K) → norm O p h ≡ k → Normal O p k → w.weigh m + largest w.weigh (u ∷ g) ≤ largest w.weigh f
      go [] d n = absurd (c (same_trans (same_sym ((norm_equal O pos h).equal m)) (same_eq (ap (λ (k : Poly K). coef k m) d))))
      go (t ∷ k) d n =
          let top : largest w.weigh (norm O p (mul (t ∷ k) (u ∷ g))) ≡ largest w.weigh (t ∷ k) + largest w.weigh (u ∷ g) = largest-mul P t u k g n ng in
          let all : norm O p (mul (t ∷ k) (u ∷ g)) ≡ f = norm_unique O pos
          (equal_trans (mul_equal O pos (subst (λ x. Equal p x h) d (norm_equal O pos h)) equal_refl) (equal_sym e)) ∙ norm_self O pos f nf in
          let here : w.weigh m ≤ largest w.weigh (t ∷ k) =
          largest-at w.weigh (t ∷ k) m (λ z. c (same_trans (same_sym ((norm_equal O pos h).equal m)) (same_eq (ap (λ (k : Poly K). coef k m) d ∙ z)))) in
          let same : largest w.weigh (norm O p (mul (t ∷ k) (u ∷ g))) ≡ largest w.weigh f = ap (largest w.weigh) all in
          omega arith
