-- `dues::Due::input` meets its contract.
use Prim.Native.Nat.{ℕ}
use mathlib.Core.Path.{◌∙◌, ap}
use Rattle.poly.specs.Words.{records}
use Rattle.refusals.specs.Reports.{or_else}
use Rattle.refusals.specs.Rules.{at_term, guard_rule, order_rule, coef_rule}
use Rattle.faults.specs.Faults.{faults_of}
use Rattle.faults.specs.declared.Faults.{Faults}
use Rattle.dues.proofs.Due.input.Goals as goal

pub returns : goal.returns
unfolding guard_rule order_rule coef_rule faults_of
returns c =
    let a = c.args in
    let d = a.self in
    let f = c.find_faults-f.ensures in
    let n = records a.s.now in
    let shaped = c.room-due.ensures in
    let guard =
    c.or_else-due.ensures
    ∙ (λ i. or_else (shaped i).guard (c.at_term.ensures i))
    ∙ ap (λ (x : ℕ). or_else d.guard (at_term x a.operand c.find_faults-f.result.guard n)) c.number.ensures
    ∙ ap (λ (x : Faults). or_else d.guard (at_term 4 a.operand x.guard n)) f in
    let order =
    c.or_else-due-2.ensures
    ∙ (λ i. or_else (shaped i).order (c.at_term-2.ensures i))
    ∙ ap (λ (x : ℕ). or_else d.order (at_term x a.operand c.find_faults-f.result.order n)) c.number-2.ensures
    ∙ ap (λ (x : Faults). or_else d.order (at_term 5 a.operand x.order n)) f in
    let coef =
    c.or_else-due-3.ensures
    ∙ (λ i. or_else (shaped i).coef (c.at_term-3.ensures i))
    ∙ ap (λ (x : ℕ). or_else d.coef (at_term x a.operand c.find_faults-f.result.coef n)) c.number-3.ensures
    ∙ ap (λ (x : Faults). or_else d.coef (at_term 6 a.operand x.coef n)) f in
    λ i. record { odd = (shaped i).odd; long = (shaped i).long; guard = guard i; order = order i; coef = coef i }
