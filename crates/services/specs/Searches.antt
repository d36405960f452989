-- What a search for a term answers. No caller of a public function meets it.
--
--   within i n   the number i, where it is one of n things
use Rattle.std.specs.Prelude.{ℕ, ltb, Option, Some, None}
use Rattle.algebra.specs.Residues.{pick}

abbrev pub within : ℕ → ℕ → Option ℕ
within i n = pick (ltb i n) (Some i) None
