-- Trial division: p is a prime when no number from 2 to its root divides it.
--
--   Tried p d                  no number from 2 and below d divides p
--   tried_none, tried_more     the start, and one divisor more
--   tried_prime                p is a prime, once d · d is over p
--   divided_not_prime          p is none, where a d from 2 with d · d at most p divides it
--   small_not_prime            0 and 1 are none
--   tried_test                 once d · d is over p, p is a prime just where it is 2 or more
use Prim.Native.Nat.{ℕ, ◌+◌, ◌*◌, ◌/◌, ◌%◌, ◌<◌, ◌≤◌, ◌∣◌}
use mathlib.Core.Path.{◌≡◌, refl, sym, ◌∙◌}
use mathlib.Core.Bool.{Bool, true, false}
use mathlib.Core.Logic.{◌⊎◌, inl, inr}
use native.Mathlib.Nat.{le_refl, mul-le-mul, mul-div_cancel', dvd-mul_left, mod-eq-zero_of_dvd, dvd_of_mod-eq-zero, pos_of_dvd_of_pos}
use native.Mathlib.Decide.{ℕ_discrete, dec_lt, dec_le}
use native.Mathlib.Omega.{arith}
use lib.Dec.{leb}
use borrow.Author.Tests.{le-leb, lt-leb}
use Rattle.algebra.specs.Residues.{is_prime}
use Rattle.algebra.proofs.Primes.{prime_of_test, test_of_prime}

pub record Tried (p d : ℕ) : Type 0 where
  pub none : (j : ℕ) → 2 ≤ j → j < d → p % j ≡ 0 → ⊥

pub tried_none : (p : ℕ) → Tried p 2
tried_none p = record { none = λ j h k e. omega arith }

pub tried_more : {p d : ℕ} → Tried p d → (p % d ≡ 0 → ⊥) → Tried p (d + 1)
tried_more {p} {d} T n =
    record {
      none = λ j h k e.
          elim (dec_lt j d) [
            | yes l ↦ T.none j h l e
            | no l ↦ let f : j ≡ d = omega arith in n (rw f at e)
          ];
    }

-- Where two factors make p and the first is d or more, the second is below d, and so 1.
second_factor : {p d : ℕ} → Tried p d → p < d * d → (c e : ℕ) → d ≤ c → 0 < p → c * e ≡ p → p % e ≡ 0 → c ≡ p
second_factor {p} {d} T h c e k l f z =
    elim (dec_lt e d) [
      | no m ↦ absurd (let g : d * d ≤ c * e = mul-le-mul k (omega arith) in omega arith)
      | yes m ↦
          elim (ℕ_discrete e 1) [
            | yes o ↦ omega (arith, rw o at f)
            | no o ↦
                elim (ℕ_discrete e 0) [
                  | yes w ↦ absurd (omega (arith, rw w at f))
                  | no w ↦ absurd (T.none e (omega arith) m z)
                ]
          ]
    ]

tried_prime : {p d : ℕ} → 2 ≤ p → Tried p d → p < d * d → is_prime p ≡ true
tried_prime {p} {d} two T h = test_of_prime (record { two = two; only = only })
  where
    only : (c : ℕ) → c ∣ p → (c ≡ 1) ⊎ (c ≡ p)
    only c k =
        let l : 0 < c = pos_of_dvd_of_pos k (omega arith) in
        let f : c * (p / c) ≡ p = mul-div_cancel' c k in
        elim (ℕ_discrete c 1) [
          | yes e ↦ inl e
          | no n ↦
              elim (dec_lt c d) [
                | yes m ↦ absurd (T.none c (omega arith) m (mod-eq-zero_of_dvd c k))
                | no m ↦ inr (second_factor T h c (p / c) (omega arith) (omega arith) f (mod-eq-zero_of_dvd (p / c) (rw f at (dvd-mul_left (p / c) c))))
              ]
        ]

refuted : (b : Bool) → (b ≡ true → ⊥) → b ≡ false
refuted true n = absurd (n refl)
refuted false n = refl

pub divided_not_prime : {p d : ℕ} → 2 ≤ d → d * d ≤ p → p % d ≡ 0 → is_prime p ≡ false
divided_not_prime {p} {d} two h e =
    let k : 2 * d ≤ d * d = mul-le-mul two (le_refl d) in
    refuted _
    (λ t. elim ((prime_of_test t).only d (dvd_of_mod-eq-zero d e)) [ inl f ↦ omega arith | inr f ↦ omega arith ])

small_not_prime : {p : ℕ} → p < 2 → is_prime p ≡ false
small_not_prime h = refuted _ (λ t. let two = (prime_of_test t).two in omega arith)

pub tried_test : {p d : ℕ} → Tried p d → p < d * d → leb 2 p ≡ is_prime p
tried_test {p} {d} T h =
    elim (dec_le 2 p) [
      | yes two ↦ le-leb 2 p two ∙ sym (tried_prime two T h)
      | no n ↦ let small : p < 2 = omega arith in lt-leb 2 p small ∙ sym (small_not_prime small)
    ]
