-- `rows::polys::product_tried` meets its contract.
use Rattle.std.proofs.Common.{◌*◌, [], refl, rules, arith}
use Rattle.product.specs.Products.{product_of}
use Rattle.rows.proofs.Said.{tried_parts}
use Rattle.rows.proofs.polys.product_tried.Goals as goal

-- there is no second output: it counts as the part of no words of the first array
pub returns : goal.returns
returns c =
    let a = c.args in
    tried_parts a.says a.written.now [] (λ room none work. product_of a.p a.a.now a.b.now room work)
    (2 * a.room) 0 a.work 16384 _ _ _ _ _ _ _ _
    c.requires.0
    (omega arith)
    c.requires.1
    c.lent_words-room_words.ensures
    c.lent_words-room_words.ensures
    c.lent_words-work_words.ensures
    c.product-report.ensures
    (search rules)
    refl
    (search rules)
    c.outcome_said.ensures
