-- What division with remainder and the divide test do.
--
--   last_rules g q work        the refusals 7 and 8: the divisor is zero; the work has fewer than four words for each term of q
--   divide_rules, test_rules   the refusals 1 to 8 of each call
--   divide_of p f g q r work   division of f by g, with the rooms q and r
--   test_of p f g q work       the divide test of f by g, with the room q
use Rattle.std.specs.Prelude.{ℕ, ◌*◌, List, [], ◌∷◌, ◌++◌}
use Rattle.monomial.specs.Layout.{base}
use Rattle.poly.specs.Words.{records}
use Rattle.refusals.specs.Rules.{lent, input_terms, room_terms, refusals, divisor_rule, work_rule}
use Rattle.refusals.specs.declared.report.Report.{Report}
use Rattle.calls.specs.Outcomes.{Outcome, called}
use Rattle.calls.specs.Inputs.{inputs}
use Rattle.quotients.specs.Quotients.{division_walk, test_walk}

abbrev pub last_rules : List ℕ → List ℕ → List ℕ → List Report
last_rules g q work = divisor_rule g ∷ work_rule (4 * records q) work ∷ []

-- Division

abbrev pub divide_rules : ℕ → List ℕ → List ℕ → List ℕ → List ℕ → List ℕ → List Report
divide_rules p f g q r work = refusals base p (inputs f g) (lent 3 q input_terms ∷ lent 4 r room_terms ∷ []) ++ last_rules g q work

unfoldable pub divide_of : ℕ → List ℕ → List ℕ → List ℕ → List ℕ → List ℕ → Outcome
divide_of p f g q r work =
    let w = division_walk p f g q r in
    called (divide_rules p f g q r work) w.reply w.quotient w.remainder q r work

-- The divide test: it has no room for a remainder

abbrev pub test_rules : ℕ → List ℕ → List ℕ → List ℕ → List ℕ → List Report
test_rules p f g q work = refusals base p (inputs f g) (lent 3 q input_terms ∷ []) ++ last_rules g q work

unfoldable pub test_of : ℕ → List ℕ → List ℕ → List ℕ → List ℕ → Outcome
test_of p f g q work =
    let w = test_walk p f g q in
    called (test_rules p f g q work) w.reply w.quotient [] q [] work
