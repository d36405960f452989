-- Laws of signed numbers.
--
--   subtracted, negated   c − p, and 0 − (p − c), where c is below p
--   residue_from_zero, residue_below_zero   the residue of z, by its sign
use Prim.Native.Nat.{ℕ, zero, suc, ◌-◌, ◌%◌, ◌<◌}
use mathlib.Core.Path.{◌≡◌, refl, ◌∙◌, ap}
use mathlib.Core.Bool.{true, false, true≢false}
use native.Mathlib.Omega.{arith}
use lib.IntN.{ℤ, pos, negsuc, sub_ℕ, nat_abs, ◌-ℤ◌}
use lib.Signed.{lt_z}
use borrow.Author.Tests.{ltb-true, lt-ltb}
use Rattle.field.specs.Answers.{residue_value}

pub subtracted : (c p : ℕ) → c < p → sub_ℕ c p ≡ negsuc (p - suc c)
subtracted c p h = rw (lt-ltb c p h)

negative : (n : ℕ) → 0 < n → pos 0 -ℤ pos n ≡ negsuc (n - 1)
negative zero h = absurd (omega arith)
negative (suc n) h = subtracted 0 (suc n) h

pub negated : (c p : ℕ) → c < p → pos 0 -ℤ pos (p - c) ≡ negsuc (p - suc c)
negated c p h = negative (p - c) (omega arith) ∙ ap negsuc (omega arith)

pub residue_from_zero : (p : ℕ) (z : ℤ) → lt_z z (pos 0) ≡ false → residue_value p z ≡ nat_abs z % p
unfolding residue_value
residue_from_zero p (pos n) e = refl
residue_from_zero p (negsuc n) e = absurd (true≢false e)

pub residue_below_zero : (p : ℕ) (z : ℤ) → lt_z z (pos 0) ≡ true → residue_value p z ≡ (p - nat_abs z % p) % p
unfolding residue_value
residue_below_zero p (pos n) e = absurd (let h : n < 0 = ltb-true _ _ e in omega arith)
residue_below_zero p (negsuc n) e = ap (λ (x : ℕ). (p - x % p) % p) (omega arith)
