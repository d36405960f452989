-- Laws of prime moduli.
--
--   prime_of_test, test_of_prime   is_prime p just where p is a prime
--   Prime-prop                     that a number is prime has one proof at most
--   below_not_zero                 a number from 1 to p − 1 is not the same as 0
--   one_not_zero                   1 is not the same as 0
--   inverse_law                    a · inverse p a is the same as 1, where a is not the same as 0
--   inverse_below                  inverse p a is 1 to p − 1 there
--   mod-cancel                     a factor that is not the same as 0 may go on both sides
--   euclid                         a product that is the same as 0 has a factor that is
--   inverse_unique                 no other number below p times a is the same as 1
use Prim.Native.Nat.{ℕ, zero, suc, ◌+◌, ◌-◌, ◌*◌, ◌/◌, ◌%◌, ◌<◌, ◌≤◌, ◌∣◌}
use mathlib.Core.Path.{◌≡◌, sym, ◌∙◌, ap}
use mathlib.Core.Bool.{Bool, true, false}
use mathlib.Core.Logic.{◌⊎◌, inl, inr}
use native.Mathlib.Nat.{mod-lt, mod-eq_of_lt, zero-mod, div-add-mod', mod-eq-zero_of_dvd, dvd_of_mod-eq-zero, le_of_dvd, pos_of_dvd_of_pos}
use native.Mathlib.Decide.{ℕ_discrete, dec_lt}
use native.Mathlib.Omega.{arith}
use lib.Dec.{eqb, leb}
use borrow.Author.Tests.{leb-true, le-leb, eqb-true, eqb-false, eq-eqb, ne_eqb}
use Rattle.std.proofs.Common.{subst}
use Rattle.std.proofs.Math.Nat.{ℕ_set, lt_irrefl}
use Rattle.std.specs.Coded.{le_prop}
use Rattle.algebra.specs.Residues.{Same, Prime, is_prime, inverse, has_divisor, first}
use Rattle.algebra.proofs.Tests.{both_true}
use Rattle.algebra.proofs.Residues.{same_eq, same_refl, same_sym, same_trans, same_mod, same_multiple, same_mul, same_mul-left, same_cancel, same_below, same_decided}
use Rattle.algebra.proofs.Scan.{first_hit, first_miss, first_unique}

-- The test

pub prime_of_test : {p : ℕ} → is_prime p ≡ true → Prime p
unfolding is_prime
prime_of_test {p} e = record { two = two; only = only }
  where
    parts : (leb 2 p ≡ true) × (eqb (first (has_divisor p) 2 (p - 2)) p ≡ true)
    parts = both_true _ _ e

    two : 2 ≤ p
    two = leb-true _ _ parts.0

    only : (d : ℕ) → d ∣ p → (d ≡ 1) ⊎ (d ≡ p)
    only d h =
        let f : first (has_divisor p) 2 (p - 2) ≡ p = eqb-true _ _ parts.1 in
        let w : 2 ≤ p = two in
        let l : 0 < d = pos_of_dvd_of_pos h (omega arith) in
        let u : d ≤ p = le_of_dvd (omega arith) h in
        elim (ℕ_discrete d 1) [
          | yes k ↦ inl k
          | no k ↦
              elim (ℕ_discrete d p) [
                | yes m ↦ inr m
                | no m ↦ absurd (eqb-false _ _ (first_miss (has_divisor p) 2 (p - 2) {j = d} (omega arith) (omega arith)) (mod-eq-zero_of_dvd d h))
              ]
        ]

pub test_of_prime : {p : ℕ} → Prime p → is_prime p ≡ true
unfolding is_prime
test_of_prime {p} P = rw (le-leb 2 p P.two) (eq-eqb _ _ (first_unique (has_divisor p) 2 (p - 2) p P.two (omega arith) fails (inr (let w : 2 ≤ p = P.two in omega arith))))
  where
    fails : (j : ℕ) → 2 ≤ j → j < p → has_divisor p j ≡ false
    fails j h k = ne_eqb _ _ (λ e. elim (P.only j (dvd_of_mod-eq-zero j e)) [ inl f ↦ omega arith | inr f ↦ omega arith ])

pub below_not_zero : {p a : ℕ} → 0 < a → a < p → Same p a 0 → ⊥
below_not_zero h k e = let z = same_below k (omega arith) e in omega arith

-- Being prime has one proof

-- no number is 1 and one that is greater
apart : {p x : ℕ} → 2 ≤ p → (a b : (x ≡ 1) ⊎ (x ≡ p)) → a ≡ b
apart {p} {x} h (inl e) (inl d) = ap inl (ℕ_set x 1 e d)
apart {p} {x} h (inl e) (inr d) = absurd (lt_irrefl 1 (subst (λ y. 1 < y) (sym d ∙ e) h))
apart {p} {x} h (inr e) (inl d) = absurd (lt_irrefl 1 (subst (λ y. 1 < y) (sym e ∙ d) h))
apart {p} {x} h (inr e) (inr d) = ap inr (ℕ_set x p e d)

pub Prime-prop : (p : ℕ) → IsProp (Prime p)
Prime-prop p a b = λ i. record { two = le_prop a.two b.two i; only = λ d h. apart a.two (a.only d h) (b.only d h) i }

-- A number whose product with a is the same as 1

remainder-step : (p a q r y : ℕ) → 0 < p → q * a + r ≡ p → Same p (a * ((p - 1) * q * y)) (r * y)
remainder-step p a q r y h e =
    let f : p - 1 + 1 ≡ p = omega arith in
    let left : a * ((p - 1) * q * y) + q * a * y ≡ q * a * y * p = omega (arith, ap (λ (x : ℕ). q * a * y * x) f) in
    let right : r * y + q * a * y ≡ y * p = omega (arith, ap (λ (x : ℕ). x * y) e) in
    same_cancel (q * a * y) (same_trans (same_eq left) (same_trans (same_multiple (q * a * y)) (same_sym (same_trans (same_eq right) (same_multiple y)))))

module _ {p : ℕ} (P : Prime p) where
  pub one_not_zero : Same p 1 0 → ⊥
  one_not_zero = below_not_zero (omega arith) P.two

  remainder_positive : (a : ℕ) → 1 < a → a < p → 0 < p % a
  remainder_positive a h k =
      elim (ℕ_discrete (p % a) 0) [
        | yes e ↦ absurd (elim (P.only a (dvd_of_mod-eq-zero a e)) [ inl f ↦ omega arith | inr f ↦ omega arith ])
        | no n ↦ omega arith
      ]

  -- down the remainders of p: n bounds the length of the way
  partner_below : (n a : ℕ) → a ≤ n → 0 < a → a < p → (y : ℕ) × Same p (a * y) 1
  partner_below zero a h k l = absurd (omega arith)
  partner_below (suc n) a h k l =
      elim (ℕ_discrete a 1) [
        | yes e ↦ (1, same_eq (omega arith))
        | no m ↦
            let b : p % a < a = mod-lt p k in
            let c = partner_below n (p % a) (omega arith) (remainder_positive a (omega arith) l) (omega arith) in
            ((p - 1) * (p / a) * c.0, same_trans (remainder-step p a (p / a) (p % a) c.0 (omega arith) (div-add-mod' p a)) c.1)
      ]

  partner : (a : ℕ) → (Same p a 0 → ⊥) → (y : ℕ) × Same p (a * y) 1
  partner a n =
      let h : 2 ≤ p = P.two in
      let k : a % p < p = mod-lt a (omega arith) in
      let l : 0 < a % p = elim (ℕ_discrete (a % p) 0) [ yes e ↦ absurd (n (record { same = e ∙ sym (zero-mod p) })) | no m ↦ omega arith ] in
      let c = partner_below p (a % p) (omega arith) l k in
      (c.0, same_trans (same_mul (same_sym (same_mod a)) same_refl) c.1)

  -- The inverse

  -- the test of which the inverse is the first that passes
  abbrev hits : ℕ → ℕ → Bool
  hits a x = eqb (a * x % p) 1

  pub inverse_below : (a : ℕ) → (Same p a 0 → ⊥) → inverse p a < p
  unfolding inverse
  inverse_below a n =
      let h : 2 ≤ p = P.two in
      let c = partner a n in
      let y : ℕ = c.0 % p in
      let e : Same p (a * y) 1 = same_trans (same_mul-left a (same_mod c.0)) c.1 in
      let k : y < p = mod-lt c.0 (omega arith) in
      let l : 0 < y = elim (ℕ_discrete y 0) [ yes z ↦ absurd (one_not_zero (same_trans (same_sym e) (same_eq (omega (arith, ap (λ (x : ℕ). a * x) z))))) | no m ↦ omega arith ] in
      elim (dec_lt (first (hits a) 1 (p - 1)) p) [
        | yes m ↦ m
        | no m ↦ absurd (eqb-false (a * y % p) 1 (first_miss (hits a) 1 (p - 1) {j = y} l (omega arith)) (e.same ∙ mod-eq_of_lt h))
      ]

  pub inverse_law : (a : ℕ) → (Same p a 0 → ⊥) → Same p (a * inverse p a) 1
  unfolding inverse
  inverse_law a n =
      let h : first (hits a) 1 (p - 1) < p = inverse_below a n in
      record { same = eqb-true _ _ (first_hit (hits a) 1 (p - 1) (omega arith)) ∙ sym (mod-eq_of_lt P.two) }

  -- Products

  -- a may be taken from a product by its inverse
  undone : (a : ℕ) → (Same p a 0 → ⊥) → (b : ℕ) → Same p (inverse p a * (a * b)) b
  undone a n b =
      same_trans (same_eq (omega arith))
      (same_trans (same_mul {b = 1} {c = b} (inverse_law a n) same_refl) (same_eq (omega arith)))

  pub mod-cancel : (a : ℕ) → (Same p a 0 → ⊥) → (b c : ℕ) → Same p (a * b) (a * c) → Same p b c
  mod-cancel a n b c e = same_trans (same_sym (undone a n b)) (same_trans (same_mul-left (inverse p a) e) (undone a n c))

  pub euclid : (a b : ℕ) → Same p (a * b) 0 → Same p a 0 ⊎ Same p b 0
  euclid a b e =
      elim (same_decided {p = p} a 0) [
        | yes z ↦ inl z
        | no n ↦ inr (mod-cancel a n b 0 (same_trans e (same_eq (omega arith))))
      ]

  pub inverse_unique : (a : ℕ) {x : ℕ} → x < p → Same p (a * x) 1 → x ≡ inverse p a
  inverse_unique a {x} h e =
      let n : Same p a 0 → ⊥ = λ z. one_not_zero (same_trans (same_sym e) (same_trans (same_mul {d = x} z same_refl) (same_eq (omega arith)))) in
      same_below h (inverse_below a n) (mod-cancel a n x (inverse p a) (same_trans e (same_sym (inverse_law a n))))
