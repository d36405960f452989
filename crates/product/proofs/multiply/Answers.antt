-- `product::multiply` meets its contract: a letter bursts, or the terms were counted into the room.
use native.Mathlib.Nat.{sub-zero}
use lib.ListN.{replicate}
use Rattle.std.proofs.Common.{rules, ◌≡◌, ℕ, [], length, Option, Ok, Err, sym, ◌∙◌, ap}
use Rattle.std.proofs.lemmas.Result.{MatchResult-weaker, MatchResult-at_err}
use Rattle.std.specs.Result.{MatchResult, result_ok}
use Rattle.reasons.specs.declared.Reason.TheVariants.{BigExponent}
use Rattle.monomial.specs.Layout.{base}
use Rattle.poly.specs.Words.{poly_of, cleared}
use Rattle.poly.proofs.Maxima.{exponents_small}
use Rattle.calls.specs.Outcomes.{outcome}
use Rattle.calls.specs.Endings.{left, told_of}
use Rattle.expansion.proofs.Bursts.{one_bursts, none_bursts}
use Rattle.product.proofs.Products.{ends_burst, ends-filled}
use Rattle.product.proofs.multiply.Goals as goal
use Rattle.product.proofs.multiply.Goals.{then-is_some, else-is_some}

pub burst_at-requires : goal.burst_at-requires
burst_at-requires c =
    (exponents_small _ _ c.requires.lent.1, exponents_small _ _ c.requires.lent.2)

pub returns : goal.returns
returns c =
    let a = c.args in
    let f = poly_of base a.rows.now in
    let g = poly_of base a.cols.now in
    let m : MatchResult c.if-is_some.end (λ n. c.map.result ≡ Ok (n, 0)) (λ d. c.map.result ≡ Err d) =
    MatchResult-weaker c.if-is_some.end c.map.ensures.cases (λ n h. search rules) (λ d h. h) in
    let work = c.clear.ensures ∙ ap (λ (n : ℕ). replicate {A = ℕ} n 0) (sub-zero (length c.if-is_some.work)) in
    let e : outcome c.told.result c.leave.new.room [] c.clear.new.s ≡ outcome (told_of c.map.result) (left (result_ok c.if-is_some.end) c.if-is_some.room) [] (cleared c.if-is_some.work) =
    λ d. outcome (c.told.ensures d) ((c.leave.ensures ∙ ap (λ (x : Option ℕ). left x c.if-is_some.room) c.ok.ensures.value) d) [] (work d) in
    elim c.if-is_some.branch [
      | then-is_some w ↦
          let big = MatchResult-at_err _ _ BigExponent w.end-is m in
          ends_burst _ a.rows.now a.cols.now a.room.now a.work.now (one_bursts f g _ c.burst_at.ensures (sym c.is_some.ensures ∙ w.if-is_some.true)) _
          (e ∙ (λ d. outcome (told_of (big d)) (left (result_ok (w.end-is d)) (w.room-is d)) [] (cleared (w.work-is d))))
      | else-is_some w ↦
          let room₁ = w.expand-n.new.room in
          let same : length room₁ ≡ length a.room.now = search rules in
          let long : length c.if-is_some.work ≡ length a.work.now = search rules in
          ends-filled _ a.rows.now a.cols.now a.room.now a.work.now c.requires.within.0 c.requires.lent.1 c.requires.lent.2
          (none_bursts f g _ c.burst_at.ensures (sym c.is_some.ensures ∙ w.if-is_some.false)) room₁ w.expand-n.result same w.expand-n.ensures
          _ (w.end-is ∙ w.room_reply-end.ensures.value) _ m _
          (e ∙ (λ d. outcome (told_of c.map.result) (left (result_ok c.if-is_some.end) (w.room-is d)) [] (replicate (long d) 0)))
    ]
