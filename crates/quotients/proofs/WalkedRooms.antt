-- A walk in the rooms of a call, from the cleared quotient room to what the call leaves.
--
--   rooms_left       the rooms left by the walk's end, and the report that tells it, are what the call leaves
--   planned          the plan of a call walks as the call does
--   tested_alone     what the divide test leaves with an empty remainder room is what it leaves without one
use Prim.Native.Nat.{ℕ, ◌-◌, ◌≤◌}
use mathlib.Core.Path.{◌≡◌, refl, sym, ◌∙◌, ap}
use mathlib.Core.Bool.{Bool, true, false}
use mathlib.Core.List.{List, [], ◌∷◌, ◌++◌, append-nil}
use native.Mathlib.Omega.{arith}
use lib.Dec.{eqb}
use lib.ListN.{length, take, replicate, length-replicate}
use Rattle.std.specs.Prelude.{Option, Result, Ok, Err, IfOk}
use Rattle.std.specs.Option.{option_map}
use Rattle.std.specs.Result.{result_ok, result_map_both}
use Rattle.std.proofs.lemmas.Result.{IfOk-weaker}
use Rattle.reasons.specs.Reasons.{number_of, reply_of}
use Rattle.reasons.specs.declared.Reason.{Reason}
use Rattle.reasons.proofs.Laws.{number_positive}
use Rattle.algebra.specs.Residues.{pick}
use Rattle.algebra.specs.Monomials.{Letters}
use Rattle.algebra.specs.Polynomials.{Poly}
use Rattle.algebra.specs.Walk.{Walked}
use Rattle.monomial.specs.Layout.{base}
use Rattle.poly.specs.Words.{records, span, poly_of, words_of, filled, cleared, decoded_poly, Monomial}
use Rattle.poly.proofs.Readings.{coded_poly, coded_decoded}
use Rattle.poly.proofs.Rooms.{all_cleared}
use Rattle.refusals.specs.Reports.{done, refusal}
use Rattle.refusals.specs.declared.report.Report.{Report}
use Rattle.calls.specs.Outcomes.{Outcome, outcome, holding, ended}
use Rattle.calls.specs.Endings.{left, told_of}
use Rattle.calls.proofs.Rooms.{Written, written_count, kept-holds, holding-none, ended_by}
use Rattle.calls.proofs.Told.{count, left-kept, told-kept}
use Rattle.judges.specs.Plans.{is_test, judges_by}
use Rattle.judges.specs.Judges.{walk_by}
use Rattle.judges.specs.declared.Plan.{Plan}
use Rattle.steps.specs.Walking.{whole}
use Rattle.steps.specs.declared.State.{State}
use Rattle.walk.specs.Running.{Wrote, Ran}
use Rattle.quotients.specs.Planned.{walked}
use Rattle.quotients.specs.Quotients.{test_walk, tested}

-- records that are monomial words hold the polynomial that they are
read_written : {f : Poly (Letters 4)} (s : List ℕ) (n : ℕ) → n ≤ records s → Monomial (span s 0 n) → decoded_poly base (span s 0 n) ≡ f → Written f s n
read_written s n h a e = record { within = h; words = ap (coded_poly base) (sym e) ∙ coded_decoded base (span s 0 n) a }

-- no reason is the reply 0
reasoned : (reason : Reason) → number_of reason ≡ 0 → ⊥
reasoned reason z = omega (arith, number_positive reason)

-- what a walk that came to its end has written, where its reply is 0
written_at : (end : Result State Reason) (terms : State → ℕ) (f : Poly (Letters 4)) (s : List ℕ) →
    IfOk end (λ t. Written f s (terms t)) → reply_of end ≡ 0 → Written f s (count terms end)
written_at (Ok t) terms f s W z = W
written_at (Err reason) terms f s W z = absurd (reasoned reason z)

module _
    {plan : Plan} (q r w : List ℕ) {q₁ q₂ r₂ w₂ : List ℕ} {end : Result State Reason} (clear : q₁ ≡ take 0 q ++ replicate (length q - 0) 0)
    (N : Ran plan q₁ r w q₂ r₂ w₂ end)
  where
    cleared-long : length q₁ ≡ length q
    cleared-long = ap length (all_cleared q q q₁ refl clear) ∙ length-replicate (length q) 0

    abbrev on : Walked (Letters 4)
    on = whole plan

    quotient_written : (t : State) → Wrote plan q₂ r₂ t → Written on.quotient q₂ t.quotient
    quotient_written t W =
        read_written q₂ t.quotient W.quotient_within W.quotient_monomials
        (sym (append-nil (decoded_poly base (span q₂ 0 t.quotient))) ∙ ap (λ (x : Walked (Letters 4)). x.quotient) (sym W.ends))

    remainder_written : (t : State) → Wrote plan q₂ r₂ t → Written on.remainder r₂ t.remainder
    remainder_written t W =
        read_written r₂ t.remainder W.remainder_within W.remainder_monomials
        (sym (append-nil (decoded_poly base (span r₂ 0 t.remainder))) ∙ ap (λ (x : Walked (Letters 4)). x.remainder) (sym W.ends))

    by_end : (terms : State → ℕ) (h : Poly (Letters 4)) (s : List ℕ) → ((t : State) → Wrote plan q₂ r₂ t → Written h s (terms t)) →
        reply_of end ≡ 0 → Written h s (count terms end)
    by_end terms h s e =
        written_at end terms h s (IfOk-weaker end (λ t. Wrote plan q₂ r₂ t) (λ t. Written h s (terms t)) e N.wrote)

    pub rooms_left : (m n : Option ℕ) (e : Result (ℕ × ℕ) Reason) {t : Report} {q₃ r₃ w₃ : List ℕ} →
        w₃ ≡ take 0 w₂ ++ replicate (length w₂ - 0) 0 →
        q₃ ≡ left m q₂ → r₃ ≡ left n r₂ → t ≡ told_of e →
        m ≡ option_map (λ (s : State). s.quotient) (result_ok end) → n ≡ option_map (λ (s : State). s.remainder) (result_ok end) →
        e ≡ result_map_both (λ (s : State). (s.quotient, s.remainder)) (λ reason. reason) end →
        outcome t q₃ r₃ w₃ ≡ walked plan q r w
    rooms_left m n e {t} {q₃} {r₃} {w₃} work quotient remainder report em en ee =
        let first = by_end (λ s. s.quotient) on.quotient q₂ quotient_written in
        let second = by_end (λ s. s.remainder) on.remainder r₂ remainder_written in
        ended_by (reply_of end) on.quotient on.remainder q r w t q₃ r₃ w₃ (count (λ (s : State). s.quotient) end) (count (λ (s : State). s.remainder) end)
        (report ∙ ap told_of ee ∙ told-kept (λ (s : State). s.quotient) (λ (s : State). s.remainder) end)
        (λ z. written_count (first z))
        (λ z. written_count (second z))
        (kept-holds (reply_of end) on.quotient q q₂ q₃ _ (N.quotient_long ∙ cleared-long) first
        (quotient ∙ ap (λ (x : Option ℕ). left x q₂) em ∙ left-kept (λ (s : State). s.quotient) end q₂))
        (kept-holds (reply_of end) on.remainder r r₂ r₃ _ N.remainder_long second
        (remainder ∙ ap (λ (x : Option ℕ). left x r₂) en ∙ left-kept (λ (s : State). s.remainder) end r₂))
        (all_cleared w w₂ w₃ N.work_long work)
        ∙ ap (λ (x : ℕ). ended x on.quotient on.remainder q r w) (sym N.replies)

-- an empty room holds no terms, so that none are told
none_told : (b : Bool) (reply n : ℕ) (f : Poly (Letters 4)) → length (pick b (filled 0 (words_of base f)) (cleared [])) ≡ 0 →
    pick b (done n (length f)) (refusal reply 0 0) ≡ pick b (done n 0) (refusal reply 0 0)
none_told true reply n [] e = refl
none_told true reply n (t ∷ f) e = absurd (omega arith)
none_told false reply n f e = refl

pub tested_alone : (p : ℕ) (f g q work : List ℕ) {t : Report} {q' r' w' : List ℕ} →
    (let w = test_walk p f g q in outcome t q' r' w' ≡ ended w.reply w.quotient w.remainder q [] work) → length r' ≡ 0 →
    outcome t q' [] w' ≡ tested p f g q work
tested_alone p f g q work e none =
    let w = test_walk p f g q in
    let empty : length (holding w.reply w.remainder []) ≡ 0 = ap (λ (x : Outcome). length x.second) (sym e) ∙ none in
    λ d. outcome
    ((ap (λ (x : Outcome). x.report) e ∙ none_told (eqb w.reply 0) w.reply (length w.quotient) w.remainder empty) d)
    ((e d).first)
    (sym (holding-none w.reply) d)
    ((e d).work)

-- the plan of a call walks as the call does
pub planned : (plan : Plan) (q r work : List ℕ) {o : Outcome} {p m n : ℕ} {f g : List ℕ} {test : Bool} → o ≡ walked plan q r work →
    (plan.p ≡ p) × (plan.f.now ≡ f) × (plan.g.now ≡ g) →
    (is_test plan.judge ≡ test) × (plan.judge.quotients ≡ m) × (plan.judge.remainders ≡ n) →
    let w = walk_by p (judges_by test (poly_of base f) (poly_of base g) m n) (poly_of base f) (poly_of base g) in
    o ≡ ended w.reply w.quotient w.remainder q r work
planned plan q r work e i j =
    e
    ∙ (λ d.
    let f = poly_of base (i.1 d) in
    let g = poly_of base (i.2 d) in
    let w = walk_by (i.0 d) (judges_by (j.0 d) f g (j.1 d) (j.2 d)) f g in
    ended w.reply w.quotient w.remainder q r work)
