-- Whole numbers modulo p.
--
--   first t i n     the first of the n numbers i, i + 1, .. that passes the test t; i + n if none does
--   FirstOf t n i   i is the first of the numbers below n that pass the test t
--   Same p a b      a and b leave the same remainder modulo p
--   Prime p         p is at least 2, and only 1 and p divide it
--   is_prime p      the same as a test that computes
--   inverse p a     the first x from 1 to p − 1 with a · x ≡ 1 modulo p; p if there is none
use Rattle.std.specs.Prelude.{ℕ, zero, suc, ◌*◌, ◌-◌, ◌%◌, ◌<◌, ◌≤◌, ◌≡◌, Bool, true, false, ◌&&◌, ◌⊎◌, eqb, leb}
use Rattle.std.specs.Int.{◌∣◌}

-- one of two values, by a test
abbrev pub pick {ℓ} : {A : Type ℓ} → Bool → A → A → A
pick true a b = a
pick false a b = b

abbrev pub first : (ℕ → Bool) → ℕ → ℕ → ℕ
first t i zero = i
first t i (suc n) = let rest = first t (suc i) n in pick (t i) i rest

pub record FirstOf (t : ℕ → Bool) (n i : ℕ) : Type 0 where
  pub within : i < n
  pub holds : t i ≡ true
  pub before : (j : ℕ) → j < i → t j ≡ false

pub record Same (p a b : ℕ) : Type 0 where
  pub same : a % p ≡ b % p

pub record Prime (p : ℕ) : Type 0 where
  pub two : 2 ≤ p
  pub only : (d : ℕ) → d ∣ p → (d ≡ 1) ⊎ (d ≡ p)

-- whether d divides n
abbrev pub has_divisor : ℕ → ℕ → Bool
has_divisor n d = eqb (n % d) 0

-- from 2 on, the first divisor of p is p itself
unfoldable pub is_prime : ℕ → Bool
is_prime p = leb 2 p && eqb (first (has_divisor p) 2 (p - 2)) p

unfoldable pub inverse : ℕ → ℕ → ℕ
inverse p a = first (λ x. eqb (a * x % p) 1) 1 (p - 1)
