-- Which numbers are moduli.
--
--   limit          the greatest modulus
--   is_modulus p   p is a prime, and at most the limit
--   modulus_of p   the reply: 0 where p is a modulus, else 1
use Rattle.std.specs.Prelude.{ℕ, Bool, ◌&&◌, leb}
use Rattle.algebra.specs.Residues.{is_prime, pick}

-- p is at most 2,147,483,647
abbrev pub limit : ℕ
limit = 2147483647

-- p is at most the limit, and a prime
unfoldable pub is_modulus : ℕ → Bool
is_modulus p = leb p limit && is_prime p

-- 0 where p is a modulus, and 1 where it is not
unfoldable pub modulus_of : ℕ → ℕ
modulus_of p = pick (is_modulus p) 0 1
