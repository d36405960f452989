-- `rows::polys::test_tried` meets its contract.
use Rattle.std.proofs.Common.{◌*◌, [], refl, rules, arith}
use Rattle.division.specs.Division.{test_of}
use Rattle.rows.proofs.Said.{tried_parts}
use Rattle.rows.proofs.polys.test_tried.Goals as goal

-- there is no second output: it counts as the part of no words of the first array
pub returns : goal.returns
returns c =
    let a = c.args in
    tried_parts a.says a.quotient.now [] (λ room none work. test_of a.p a.f.now a.g.now room work)
    (2 * a.q) 0 a.work 16384 _ _ _ _ _ _ _ _
    c.requires.0
    (omega arith)
    c.requires.1
    c.lent_words-q_words.ensures
    c.lent_words-q_words.ensures
    c.lent_words-work_words.ensures
    c.divides-report.ensures
    (search rules)
    refl
    (search rules)
    c.outcome_said.ensures
