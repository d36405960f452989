-- `services::run::in_order` meets its contract: 2 to 5 are what is due of the slice.
use Rattle.std.proofs.Common.{rules, tests, ◌≡◌, ◌∙◌}
use Rattle.dues.specs.Dues.{no_due, with_input}
use Rattle.services.specs.Services.{as_input}
use Rattle.services.proofs.Parts.{all_done, ordered}
use Rattle.services.proofs.run.in_order.Goals as goal

pub returns-then-is_done-3 : goal.returns-then-is_done-3
returns-then-is_done-3 c =
    let due : c.input-due.result ≡ with_input 0 no_due (as_input c.args.s.now) = search rules in
    let tested : c.is_done-then-is_done-3.result ≡ all_done c.input-due.result = search (rules, tests) in
    tested ∙ ordered c.args.s.now _ due

pub returns-else-is_done-3 : goal.returns-else-is_done-3
returns-else-is_done-3 c =
    let due : c.input-due.result ≡ with_input 0 no_due (as_input c.args.s.now) = search rules in
    let tested : c.if-is_done-2.value ≡ all_done c.input-due.result = search (rules, tests) in
    tested ∙ ordered c.args.s.now _ due
