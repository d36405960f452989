-- What calls on two polynomials are lent.
--
--   inputs a b              two slices lent as the first and the second input
--   two_inputs p a b room   the refusals 1 to 6 of a call with two inputs and one room
use Rattle.std.specs.Prelude.{ℕ, List, [], ◌∷◌}
use Rattle.monomial.specs.Layout.{base}
use Rattle.refusals.specs.Rules.{Lent, lent, input_terms, room_terms, refusals}
use Rattle.refusals.specs.declared.report.Report.{Report}

abbrev pub inputs : List ℕ → List ℕ → List Lent
inputs a b = lent 1 a input_terms ∷ lent 2 b input_terms ∷ []

abbrev pub two_inputs : ℕ → List ℕ → List ℕ → List ℕ → List Report
two_inputs p a b room = refusals base p (inputs a b) (lent 3 room room_terms ∷ [])
