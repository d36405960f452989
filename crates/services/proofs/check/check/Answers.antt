-- `services::check::check` meets its contract: what is due slice by slice is the first refusal of the ordered list.
use Rattle.std.proofs.Common.{rules, ◌≡◌, [], ◌∷◌, ◌∙◌}
use Rattle.poly.specs.Words.{records}
use Rattle.refusals.specs.Reports.{done}
use Rattle.dues.specs.Dues.{no_due, with_input, first_due}
use Rattle.dues.proofs.Dues.{dues_first}
use Rattle.services.specs.Services.{as_input, check_of}
use Rattle.services.proofs.check.check.Goals as goal

pub returns : goal.returns
unfolding check_of
returns c =
    let a = c.args in
    let due : c.input.result ≡ with_input a.p no_due (as_input a.s.now) = search rules in
    c.first.ensures
    ∙ (λ i. first_due a.p (due i) (c.done.ensures i))
    ∙ dues_first a.p (as_input a.s.now ∷ []) [] (done (records a.s.now) 0)
