-- `rows::polys::division_tried` meets its contract.
use Rattle.std.proofs.Common.{◌*◌, rules}
use Rattle.division.specs.Division.{divide_of}
use Rattle.rows.proofs.Said.{tried_parts}
use Rattle.rows.proofs.polys.division_tried.Goals as goal

pub returns : goal.returns
returns c =
    let a = c.args in
    tried_parts a.says a.quotient.now a.remainder.now (divide_of a.p a.f.now a.g.now)
    (2 * a.q) (2 * a.r) a.work 16384 _ _ _ _ _ _ _ _
    c.requires.0
    c.requires.1
    c.requires.2
    c.lent_words-q_words.ensures
    c.lent_words-r_words.ensures
    c.lent_words-work_words.ensures
    c.divide-report.ensures
    (search rules)
    (search rules)
    (search rules)
    c.outcome_said.ensures
