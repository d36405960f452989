-- Laws of moduli, and of numbers modulo them.
--
--   modulus_prime, modulus_within     a modulus is a prime, and at most the limit
--   modulus_of_lem                    and a prime up to the limit is a modulus
--   modulus-test                      the reply r is 0 just where p is a modulus, as a test
--   modulus_passed, modulus-refused   a reply r of 0 says that p is a modulus, any other that it is not
--   modulus-done                      reply 0 is given exactly when p is a prime up to the limit
--   negative_same                     p − a, reduced, is the same as (p − 1) · a: −a in two forms
use Prim.Native.Nat.{ℕ, ◌≤◌, ◌+◌, ◌-◌, ◌*◌, ◌%◌, ◌<◌}
use mathlib.Core.Path.{◌≡◌, refl, sym, ◌∙◌, ap}
use mathlib.Core.Bool.{Bool, true, false}
use native.Mathlib.Omega.{arith}
use lib.Dec.{leb, eqb}
use borrow.Author.Tests.{leb-true, le-leb}
use Rattle.algebra.specs.Residues.{Prime, is_prime, pick, Same}
use Rattle.algebra.proofs.Tests.{both_true}
use Rattle.algebra.proofs.Primes.{prime_of_test, test_of_prime}
use Rattle.moduli.specs.Moduli.{limit, is_modulus, modulus_of}
use mathlib.Core.Logic.{◌↔◌}
use Rattle.algebra.proofs.Residues.{same_eq, same_sym, same_trans, same_mod, same_multiple, same_cancel, same_minus}

pub modulus_prime : {p : ℕ} → is_modulus p ≡ true → Prime p
unfolding is_modulus
modulus_prime {p} e = prime_of_test (both_true (leb p limit) (is_prime p) e).1

pub modulus_within : {p : ℕ} → is_modulus p ≡ true → p ≤ limit
unfolding is_modulus
modulus_within {p} e = leb-true _ _ (both_true (leb p limit) (is_prime p) e).0

pub modulus_of_lem : {p : ℕ} → Prime p → p ≤ limit → is_modulus p ≡ true
unfolding is_modulus
modulus_of_lem P h = rw (le-leb _ _ h) (test_of_prime P)

picked_zero : (b : Bool) → pick {A = ℕ} b 0 1 ≡ 0 → b ≡ true
picked_zero true e = refl
picked_zero false e = absurd (omega arith)

picked_one : (b : Bool) → (pick {A = ℕ} b 0 1 ≡ 0 → ⊥) → b ≡ false
picked_one true n = absurd (n refl)
picked_one false n = refl

pub modulus_passed : (p : ℕ) {r : ℕ} → r ≡ modulus_of p → r ≡ 0 → is_modulus p ≡ true
unfolding modulus_of
modulus_passed p f e = picked_zero _ (sym f ∙ e)

pub modulus-refused : (p : ℕ) {r : ℕ} → r ≡ modulus_of p → (r ≡ 0 → ⊥) → is_modulus p ≡ false
unfolding modulus_of
modulus-refused p f n = picked_one _ (λ e. n (f ∙ e))

zero-test : (b : Bool) → eqb (pick b 0 1) 0 ≡ b
zero-test true = refl
zero-test false = refl

pub modulus-test : (p : ℕ) {r : ℕ} → r ≡ modulus_of p → eqb r 0 ≡ is_modulus p
unfolding modulus_of
modulus-test p f = ap (λ x. eqb x 0) f ∙ zero-test (is_modulus p)

pub modulus-done : (p : ℕ) → (modulus_of p ≡ 0) ↔ (Prime p × (p ≤ limit))
unfolding modulus_of
modulus-done p =
    (λ e. let m = modulus_passed p refl e in (modulus_prime m, modulus_within m), λ h. rw (modulus_of_lem h.0 h.1))

pub negative_same : {p a : ℕ} → a < p → Same p ((p - a) % p) ((p - 1) * a)
negative_same {p} {a} h =
    let e : p - a + a ≡ 1 * p = omega arith in
    same_trans (same_mod (p - a))
    (same_cancel a (same_trans (same_eq e) (same_trans (same_multiple 1) (same_sym (same_trans (same_eq (omega arith)) (same_minus a (omega arith)))))))
