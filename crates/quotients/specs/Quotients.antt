-- What division with remainder and the divide test leave where none of the refusals 1 to 8 is due.
--
--   division_walk, test_walk   the walk of each call, with the terms that its rooms can hold
--   divided, tested            what each call leaves
use Rattle.std.specs.Prelude.{ℕ, List, []}
use Rattle.algebra.specs.Monomials.{Letters}
use Rattle.algebra.specs.Walk.{Walked}
use Rattle.monomial.specs.Layout.{base}
use Rattle.poly.specs.Words.{records, poly_of}
use Rattle.calls.specs.Outcomes.{Outcome, ended}
use Rattle.judges.specs.Judges.{division_judges, test_judges, walk_by}

abbrev pub division_walk : ℕ → List ℕ → List ℕ → List ℕ → List ℕ → Walked (Letters 4)
division_walk p f g q r = walk_by p (division_judges (poly_of base g) (records q) (records r)) (poly_of base f) (poly_of base g)

abbrev pub divided : ℕ → List ℕ → List ℕ → List ℕ → List ℕ → List ℕ → Outcome
divided p f g q r work = let w = division_walk p f g q r in ended w.reply w.quotient w.remainder q r work

-- The divide test has no room for a remainder.

abbrev pub test_walk : ℕ → List ℕ → List ℕ → List ℕ → Walked (Letters 4)
test_walk p f g q = walk_by p (test_judges (poly_of base f) (poly_of base g) (records q)) (poly_of base f) (poly_of base g)

abbrev pub tested : ℕ → List ℕ → List ℕ → List ℕ → List ℕ → Outcome
tested p f g q work = let w = test_walk p f g q in ended w.reply w.quotient [] q [] work
