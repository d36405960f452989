-- `division::rules::last_rules` meets its contract.
use Prim.Native.Nat.{◌*◌}
use mathlib.Core.Path.{◌≡◌, refl, ◌∙◌}
use mathlib.Core.Bool.{Bool, true, false}
use lib.Dec.{leb}
use lib.ListN.{length}
use Rattle.poly.specs.Words.{records}
use Rattle.refusals.specs.Reports.{none, or_else}
use Rattle.refusals.specs.Rules.{unless, work_rule}
use Rattle.division.proofs.rules.last_rules.Goals as goal

-- the last rule tells that nothing is due, where it is not
or_none : (passed : Bool) → unless passed 8 5 ≡ or_else (unless passed 8 5) none
or_none true = refl
or_none false = refl

pub returns : goal.returns
unfolding work_rule
returns c =
    let a = c.args in
    c.or_else.ensures ∙ (λ d. or_else (c.divisor_rule.ensures d) ((c.work_rule.ensures ∙ or_none (leb (4 * records a.q.now) (length a.work.now))) d))
