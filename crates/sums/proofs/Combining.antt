-- Sum and difference, as one call.
--
--   result                             the sum or the difference in its normal form
--   result_coded                       its words are the normal form of what was unmerged at the start
--   combine-ends                       a merge whose room was left by its end, and told, ends as the call does
--   combine-refused, combine_goes_on   a call with a refusal due, and with none
use Prim.Native.Nat.{ℕ, ◌-◌, ◌<◌}
use mathlib.Core.Path.{◌≡◌, refl, sym, ◌∙◌, ap}
use mathlib.Core.Bool.{Bool, true, false}
use mathlib.Core.List.{List, [], ◌++◌}
use native.Mathlib.Omega.{arith}
use lib.ListN.{length}
use Rattle.algebra.specs.Monomials.{Letters}
use Rattle.algebra.specs.Orders.{Lex, Rising}
use Rattle.algebra.specs.Polynomials.{Poly, signed, norm}
use Rattle.algebra.proofs.All.{all_append, signed_all}
use Rattle.monomial.specs.Layout.{base}
use Rattle.monomial.proofs.Laws.{fit}
use Rattle.poly.specs.Words.{records, span, poly_of}
use Rattle.poly.specs.Valid.{Valid}
use Rattle.poly.proofs.Readings.{coded_poly, coded_append, valid_fits, valid_coded}
use Rattle.poly.proofs.Transport.{coded_negated, coded_norm}
use Rattle.refusals.specs.declared.report.Report.{Report}
use Rattle.refusals.specs.Reports.{none, first_or}
use Rattle.calls.specs.Inputs.{two_inputs}
use Rattle.calls.specs.Outcomes.{Outcome, outcome, told, ended, room_reply}
use Rattle.calls.specs.Endings.{kept, left, roomed, told_of, Filled}
use Rattle.calls.proofs.Told.{left-roomed, told-roomed}
use Rattle.std.proofs.Common.{Option, Result}
use Rattle.std.specs.Result.{result_ok, result_map_both}
use Rattle.reasons.specs.declared.Reason.{Reason}
use Rattle.calls.proofs.Refusals.{refused_tells, passed_goes_on}
use Rattle.calls.proofs.Rooms.{Written, written_count, kept-holds, holding-none, ended_by, filled-reply, filled_written}
use Rattle.merging.specs.Merging.{unmerged}
use Rattle.sums.specs.Sums.{combined_of}

-- the sum or the difference
abbrev pub result : ℕ → Bool → List ℕ → List ℕ → Poly (Letters 4)
result p minus a b = norm (Lex 4) p (poly_of base a ++ signed p minus (poly_of base b))

module _ (p : ℕ) (minus : Bool) (a b : List ℕ) (pos : 0 < p) (v : Valid p a) (w : Valid p b) where
  signed_coded : (minus : Bool) (f : Poly (Letters 4)) → coded_poly base (signed p minus f) ≡ signed p minus (coded_poly base f)
  signed_coded true f = coded_negated p f
  signed_coded false f = refl

  pub result_coded : coded_poly base (result p minus a b) ≡ norm Rising p (unmerged p minus a b 0 0)
  result_coded =
      let f = poly_of base a in
      let g = poly_of base b in
      let P : (Letters 4).Mon → Type 0 = λ m. fit base m ≡ true in
      let all : (n : ℕ) → n ≡ n - 0 = λ n. omega arith in
      coded_norm p pos (f ++ signed p minus g)
      (all_append P f (signed p minus g) (valid_fits p a v) (signed_all P p minus g (valid_fits p b w)))
      ∙ ap (norm Rising p)
      (coded_append base f (signed p minus g)
      ∙ (λ d. valid_coded p a v d ++ (signed_coded minus g ∙ ap (signed p minus) (valid_coded p b w)) d)
      ∙ (λ d. span a 0 (all (records a) d) ++ signed p minus (span b 0 (all (records b) d))))

  -- the room and the report of a merge that counted n terms: o is what the room was left with, and m what was told
  pub combine-ends : (room room₁ room₂ : List ℕ) (n : ℕ) (end : Result ℕ Reason) (o : Option ℕ) (m : Result (ℕ × ℕ) Reason) {r : Report} →
      length room₁ ≡ length room → Filled p (unmerged p minus a b 0 0) room room₁ n → end ≡ roomed n room₁ → o ≡ result_ok end → room₂ ≡ left o room₁ →
      m ≡ result_map_both (λ k. (k, 0)) (λ reason. reason) end → r ≡ told_of m →
      outcome r room₂ [] [] ≡ ended (room_reply (length (result p minus a b)) room) (result p minus a b) [] room [] []
  combine-ends room room₁ room₂ n end o m {r} same F e eo el em et =
      let f = result p minus a b in
      let whole = unmerged p minus a b 0 0 in
      let reply = room_reply n room₁ in
      let W : reply ≡ 0 → Written f room₁ n = filled_written p f whole result_coded room room₁ n F same in
      let report : r ≡ told reply n 0 =
      et ∙ ap told_of em ∙ ap (λ (x : Result ℕ Reason). told_of (result_map_both (λ k. (k, 0)) (λ reason. reason) x)) e ∙ told-roomed n room₁ (λ k. k) (λ k. 0) in
      let kept_room : room₂ ≡ kept reply n room₁ =
      el ∙ ap (λ (x : Option ℕ). left x room₁) eo ∙ ap (λ (x : Result ℕ Reason). left (result_ok x) room₁) e ∙ left-roomed n room₁ room₁ in
      ended_by reply f [] room [] [] r room₂ [] [] n 0 report (λ z. written_count (W z)) (λ z. refl)
      (kept-holds reply f room room₁ room₂ n same W kept_room) (sym (holding-none reply)) refl
      ∙ ap (λ (x : ℕ). ended x f [] room [] []) (filled-reply p f whole result_coded room room₁ n F same)

-- The call: refused, or merged

module _ (p : ℕ) (minus : Bool) (a b room : List ℕ) (r : Report) (e : r ≡ first_or (two_inputs p a b room) none) where
  abbrev then : Outcome
  then = ended (room_reply (length (result p minus a b)) room) (result p minus a b) [] room [] []

  pub combine-refused : (r.number ≡ 0 → ⊥) → outcome r room [] [] ≡ combined_of p minus a b room
  combine-refused n = refused_tells (two_inputs p a b room) r e room [] [] then n

  pub combine_goes_on : r.number ≡ 0 → (o : Outcome) → o ≡ then → o ≡ combined_of p minus a b room
  combine_goes_on z o f = f ∙ passed_goes_on (two_inputs p a b room) r e room [] [] then z
