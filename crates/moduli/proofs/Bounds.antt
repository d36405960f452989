-- What fits a 64-bit word.
--
--   product_small   the product of two numbers up to the limit is below 2 ^ 62
use Prim.Native.Nat.{ℕ, ◌*◌, ◌^◌, ◌<◌, ◌≤◌}
use native.Mathlib.Nat.{mul-le-mul}
use native.Mathlib.Omega.{arith}
use Rattle.moduli.specs.Moduli.{limit}

pub product_small : (a b : ℕ) → a ≤ limit → b ≤ limit → a * b < 2 ^ 62
product_small a b h k = let m : a * b ≤ limit * limit = mul-le-mul h k in omega arith
