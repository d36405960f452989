-- `services::run::run_part` meets its contract.
use Rattle.std.proofs.Common.{◌≡◌, ◌<◌, ◌∙◌, sym, ap, arith}
use Rattle.poly.specs.Words.{records}
use Rattle.services.specs.Services.{ends, run_of}
use Rattle.services.proofs.Parts.{part, run-refused, run_missing, run_found, ends_within}
use Rattle.services.proofs.run.run_part.Goals as goal
use Rattle.services.proofs.run.run_part.Goals.{In-Some}

pub returns-then-not-in_order : goal.returns-then-not-in_order
returns-then-not-in_order c =
    let e = c.default.ensures in
    (λ d. record { start = e.0 d; end = e.1 d }) ∙ sym (run-refused _ _ (sym c.in_order.ensures ∙ c.if-not-in_order.true))

pub returns-in_default : goal.returns-in_default
returns-in_default c =
    let e = c.default-in_default.ensures in
    (λ d. record { start = e.0 d; end = e.1 d })
    ∙ sym (run_missing _ _ (sym c.in_order.ensures ∙ c.if-not-in_order.false) (sym c.first_with.ensures ∙ c.in_default.is))

-- the run from the first term with the power
found : (c : In-Some) → let s = c.args.s.now in
    (c.in-Some.start < records s) × (run_of s c.args.power ≡ part c.in-Some.start (ends s c.args.power c.in-Some.start))
found c = run_found _ _ (sym c.in_order.ensures ∙ c.if-not-in_order.false) _ (sym c.first_with.ensures ∙ c.in-Some.is)

pub overflow_mul-result-2 : goal.overflow_mul-result-2
overflow_mul-result-2 c =
    let a = c.args in
    let h = (found (goal.at.overflow_mul-result-2 c).In-Some).0 in
    omega (arith, c.first_without.ensures, ends_within a.s.now a.power c.in-Some.start (omega (arith, h)))

pub returns : goal.returns
returns c =
    ap (part c.in-Some.start) c.first_without.ensures ∙ sym (found (goal.at.returns c).In-Some).1
