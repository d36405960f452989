-- What a modeller expects of the operations.
--
--   sum-done, product-done, inverse-done, balanced-done, residue-done
--                          reply 0 is given exactly when the modulus and the operands are good
--   inverse_undoes         a times its inverse is 1, as two calls
--   balanced_in_range      a balanced value is above −p/2 and at most p/2
--   residue_of-balanced    the residue of the balanced value of c is c
--   balanced_of-residue    the balanced value of the residue of a number in that range is the number
--   residue_below          a residue is below p
--   residue_same_from      the residue of n is the same as n
--   residue_same_below     the residue of −(n + 1), with n + 1 added, is the same as 0
use Prim.Native.Nat.{ℕ, suc, ◌+◌, ◌-◌, ◌*◌, ◌%◌, ◌<◌, ◌≤◌}
use mathlib.Core.Path.{◌≡◌, refl, ◌∙◌, ap}
use mathlib.Core.Bool.{Bool, true, ◌&&◌}
use mathlib.Core.Logic.{◌↔◌}
use native.Mathlib.Nat.{mod-lt, mod-eq_of_lt}
use native.Mathlib.Decide.{dec_le}
use native.Mathlib.Omega.{arith}
use lib.Dec.{ltb}
use lib.IntN.{ℤ, pos, negsuc}
use borrow.Author.Tests.{ltb-true, lt-ltb, le-leb, lt-leb}
use Rattle.algebra.specs.Residues.{Same, Prime}
use Rattle.algebra.proofs.Residues.{same_eq, same_sym, same_trans, same_mod, same_multiple, same_add}
use Rattle.algebra.proofs.Primes.{below_not_zero, inverse_law, inverse_below}
use Rattle.field.specs.declared.Balance.{Balance}
use Rattle.moduli.specs.Moduli.{limit}
use Rattle.field.specs.Answers.{or_refused, value, no_value, field_sum_of, field_product_of, inverse_of, balanced_value, balanced_of, residue_value, residue_of}
use Rattle.algebra.proofs.Tests.{both_true}
use Rattle.moduli.proofs.Moduli.{modulus_prime, modulus_within, modulus_of_lem}
use Rattle.field.proofs.Operands.{answer_passed}
use Rattle.field.proofs.Signs.{subtracted}

-- Reply 0

abbrev Modulus : ℕ → Type 0
Modulus p = Prime p × (p ≤ limit)

done : {A : Type 0} (number : A → ℕ) (refused : ℕ → A) → ((r : ℕ) → number (refused r) ≡ r) → (p : ℕ) (good : Bool) (v : A) → number v ≡ 0 →
    (number (or_refused refused p good v) ≡ 0) ↔ (Modulus p × (good ≡ true))
done number refused k p good v z = (
  λ e. let h = answer_passed number refused k p good v e in ((modulus_prime h.0, modulus_within h.0), h.1),
  λ h. rw (modulus_of_lem h.0.0 h.0.1, h.1) z,
)

bounds_done : (p x a y b v : ℕ) → ((or_refused no_value p (ltb x a && ltb y b) (value v)).number ≡ 0) ↔ (Prime p × (p ≤ limit) × (x < a) × (y < b))
bounds_done p x a y b v =
    let d = done (λ w. w.number) no_value (λ r. refl) p (ltb x a && ltb y b) (value v) refl in (
      λ e. let h = d.0 e in
          let g = both_true (ltb x a) (ltb y b) h.1 in
          (h.0.0, h.0.1, ltb-true _ _ g.0, ltb-true _ _ g.1),
      λ h. d.1 ((h.0, h.1), rw (lt-ltb _ _ h.2) (lt-ltb _ _ h.3)),
    )

pub sum-done : (p a b : ℕ) → ((field_sum_of p a b).number ≡ 0) ↔ (Prime p × (p ≤ limit) × (a < p) × (b < p))
unfolding field_sum_of
sum-done p a b = bounds_done p a p b p _

pub product-done : (p a b : ℕ) → ((field_product_of p a b).number ≡ 0) ↔ (Prime p × (p ≤ limit) × (a < p) × (b < p))
unfolding field_product_of
product-done p a b = bounds_done p a p b p _

pub inverse-done : (p a : ℕ) → ((inverse_of p a).number ≡ 0) ↔ (Prime p × (p ≤ limit) × (0 < a) × (a < p))
unfolding inverse_of
inverse-done p a = bounds_done p 0 a a p _

pub balanced-done : (p c : ℕ) → ((balanced_of p c).number ≡ 0) ↔ (Prime p × (p ≤ limit) × (c < p))
unfolding balanced_of
balanced-done p c =
    let d = done {A = Balance} (λ x. x.number) (λ r. record { number = r; value = pos 0 }) (λ r. refl) p (ltb c p) (record { number = 0; value = balanced_value p c }) refl in
    (λ e. let h = d.0 e in (h.0.0, h.0.1, ltb-true _ _ h.1), λ h. d.1 ((h.0, h.1), lt-ltb _ _ h.2))

pub residue-done : (p : ℕ) (n : ℤ) → ((residue_of p n).number ≡ 0) ↔ (Prime p × (p ≤ limit))
unfolding residue_of
residue-done p n =
    let d = done (λ x. x.number) no_value (λ r. refl) p true (value (residue_value p n)) refl in
    (λ e. (d.0 e).0, λ h. d.1 (h, refl))

-- The inverse

pub inverse_undoes : {p : ℕ} → Prime p → p ≤ limit → (a : ℕ) → 0 < a → a < p → field_product_of p a (inverse_of p a).value ≡ value 1
unfolding field_product_of inverse_of
inverse_undoes {p} P h a k l =
    let n : Same p a 0 → ⊥ = below_not_zero k l in
    rw (modulus_of_lem P h, lt-ltb 0 a k, lt-ltb a p l, lt-ltb _ _ (inverse_below P a n))
    (λ i. value (((inverse_law P a n).same ∙ mod-eq_of_lt P.two) i))

-- The balanced value, and back

-- above −p/2 and at most p/2
abbrev pub InRange : ℕ → ℤ → Type 0
InRange p (pos n) = 2 * n ≤ p
InRange p (negsuc n) = 2 * (n + 1) < p

pub balanced_in_range : (p c : ℕ) → c < p → InRange p (balanced_value p c)
unfolding balanced_value
balanced_in_range p c h =
    elim (dec_le (2 * c) p) [
      | yes k ↦ rw (le-leb _ _ k) k
      | no k ↦ let l : p < 2 * c = omega arith in rw (lt-leb _ _ l, subtracted c p h) (omega arith)
    ]

pub residue_below : (p : ℕ) (z : ℤ) → 0 < p → residue_value p z < p
unfolding residue_value
residue_below p (pos n) h = mod-lt n h
residue_below p (negsuc n) h = mod-lt _ h

pub residue_same_from : (p n : ℕ) → Same p (residue_value p (pos n)) n
unfolding residue_value
residue_same_from p n = same_mod n

pub residue_same_below : (p n : ℕ) → 0 < p → Same p (residue_value p (negsuc n) + (n + 1)) 0
unfolding residue_value
residue_same_below p n h =
    let k : (n + 1) % p < p = mod-lt (n + 1) h in
    let e : p - (n + 1) % p + (n + 1) % p ≡ 1 * p = omega arith in
    same_trans (same_add (same_mod (p - (n + 1) % p)) (same_sym (same_mod (n + 1))))
    (same_trans (same_eq e) (same_multiple 1))

residue_near : (p n : ℕ) → n + 1 < p → residue_value p (negsuc n) ≡ p - (n + 1)
unfolding residue_value
residue_near p n h = rw (mod-eq_of_lt h) (mod-eq_of_lt (omega arith))

pub residue_of-balanced : (p c : ℕ) → c < p → residue_value p (balanced_value p c) ≡ c
unfolding balanced_value residue_value
residue_of-balanced p c h =
    elim (dec_le (2 * c) p) [
      | yes k ↦ rw (le-leb _ _ k) (mod-eq_of_lt h)
      | no k ↦
          let l : p < 2 * c = omega arith in
          rw (lt-leb _ _ l, subtracted c p h) (residue_near p (p - suc c) (omega arith) ∙ omega arith)
    ]

pub balanced_of-residue : (p : ℕ) → 0 < p → (z : ℤ) → InRange p z → balanced_value p (residue_value p z) ≡ z
unfolding balanced_value residue_value
balanced_of-residue p k (pos n) h =
    let l : n < p = omega arith in
    rw (mod-eq_of_lt l, le-leb _ _ h)
balanced_of-residue p k (negsuc n) h =
    let l : p < 2 * (p - (n + 1)) = omega arith in
    rw (residue_near p n (omega arith), lt-leb _ _ l, subtracted (p - (n + 1)) p (omega arith)) (ap negsuc (omega arith))
