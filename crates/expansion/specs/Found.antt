-- The first letter that bursts, as an answer. No caller of a public function meets it.
--
--   first_burst f g   the letter of `burst_at`, or none
use Rattle.std.specs.Prelude.{ℕ, Option, Some, None, ltb}
use Rattle.algebra.specs.Residues.{pick}
use Rattle.algebra.specs.Monomials.{Letters}
use Rattle.algebra.specs.Polynomials.{Poly}
use Rattle.expansion.specs.Bursts.{burst_at}

abbrev pub first_burst : Poly (Letters 4) → Poly (Letters 4) → Option ℕ
first_burst f g = let v = burst_at f g in pick (ltb v 4) (Some v) None
