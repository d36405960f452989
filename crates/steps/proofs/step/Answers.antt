-- `steps::step` meets its contract: each way out is a law of `Onward`, at the head that was taken.
use Prim.Native.Nat.{◌-◌}
use mathlib.Core.Path.{◌≡◌, sym, ◌∙◌}
use mathlib.Core.Bool.{true, false}
use native.Mathlib.Omega.{arith}
use Rattle.std.proofs.lemmas.Result.{err_from_is_err_and}
use Rattle.monomial.specs.Layout.{base, word_divides}
use Rattle.poly.specs.Words.{word_at}
use Rattle.judges.proofs.Judging.{divisor_monomial}
use Rattle.steps.proofs.Onward.{AtHead, at_head, step_skips, factors_small, quotient-word, row_asked, step_stops_quotient, step-divides, step_stops_remainder, step_moves}
use Rattle.steps.proofs.step.Goals as goal
use Rattle.steps.proofs.step.Goals.{Else-h-eq0, Then-divides, Else-divides}

-- Places: the head that is not 0; where the divisor's lead divides its monomial; where it does not

head : (c : Else-h-eq0) → let a = c.args in let h = c.take_head-h in
    AtHead a.plan.now a.q.now a.r.now a.work.now a.s.next a.s.quotient a.s.remainder a.k h.new.work h.result.next h.result.coef
head c = at_head c.requires.head c.requires.walking c.take_head-h.ensures

lead-divides : (c : Then-divides) → let a = c.args in word_divides base (word_at a.plan.now.g.now 0) (a.k - 1) ≡ true
lead-divides c = sym c.divides.ensures ∙ c.if-divides.true

lead-not : (c : Else-divides) → let a = c.args in word_divides base (word_at a.plan.now.g.now 0) (a.k - 1) ≡ false
lead-not c = sym c.divides.ensures ∙ c.if-divides.false

pub returns-then-h-eq0 : goal.returns-then-h-eq0
returns-then-h-eq0 c =
    step_skips (at_head c.requires.head c.requires.walking c.take_head-h.ensures) c.if-h-eq0.true

pub overflow_sub-word : goal.overflow_sub-word
overflow_sub-word c =
    let at = goal.at.overflow_sub-word c in
    omega (arith, quotient-word (head at.Else-h-eq0) c.if-h-eq0.false (lead-divides at.Then-divides))

pub judge_quotient-requires : goal.judge_quotient-requires
judge_quotient-requires c =
    let at = goal.at.judge_quotient-requires c in
    ((quotient-word (head at.Else-h-eq0) c.if-h-eq0.false (lead-divides at.Then-divides)).0, divisor_monomial c.args.plan.now.ready)

pub returns-in_err-judge_quotient : goal.returns-in_err-judge_quotient
returns-in_err-judge_quotient c =
    let at = goal.at.returns-in_err-judge_quotient c in
    let p = err_from_is_err_and c.from_residual.result c.from_residual.ensures.1 in
    rw (p.1, p.2)
    (step_stops_quotient (head at.Else-h-eq0) c.if-h-eq0.false (lead-divides at.Then-divides) _ c.in_err-judge_quotient.ensures)

pub mul_mod-coef-requires : goal.mul_mod-coef-requires
mul_mod-coef-requires c =
    let small = factors_small (head (goal.at.mul_mod-coef-requires c).Else-h-eq0) in (c.args.plan.now.ready.positive, small.0, small.1)

pub put_row-requires : goal.put_row-requires
put_row-requires c =
    let at = goal.at.put_row-requires c in
    let asked = row_asked (head at.Else-h-eq0) c.if-h-eq0.false (lead-divides at.Then-divides) (sym c.in_ok-judge_quotient.ensures) in
    record { within = asked.0; vacant = asked.1.0; live = asked.1.1 }

pub returns-then-divides : goal.returns-then-divides
returns-then-divides c =
    let at = goal.at.returns-then-divides c in
    step-divides (head at.Else-h-eq0) c.if-h-eq0.false (lead-divides at.Then-divides) (sym c.in_ok-judge_quotient.ensures)
    c.mul_mod-coef.ensures
    c.put_row.ensures

pub returns-in_err-judge_remainder : goal.returns-in_err-judge_remainder
returns-in_err-judge_remainder c =
    let at = goal.at.returns-in_err-judge_remainder c in
    let from = c.from_residual-in_err-judge_remainder in
    let p = err_from_is_err_and from.result from.ensures.1 in
    rw (p.1, p.2) (step_stops_remainder (head at.Else-h-eq0) c.if-h-eq0.false (lead-not at.Else-divides) _ c.in_err-judge_remainder.ensures)

pub returns : goal.returns
returns c =
    let at = goal.at.returns c in
    step_moves (head at.Else-h-eq0) c.if-h-eq0.false (lead-not at.Else-divides) (sym c.in_ok-judge_remainder.ensures) c.put_term.ensures
