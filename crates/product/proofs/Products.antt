-- The product, one law for each way out.
--
--   product_coded             the words of the product's normal form, where no letter bursts
--   ends_burst, ends-filled   a product that bursts; one whose terms were counted into the room
--   factors_exchanged         which factor is the first makes no difference
--   product-refused, product_goes_on, work_suffices   the call with a refusal due, and with none
use Prim.Native.Nat.{ℕ, ◌*◌, ◌<◌, ◌≤◌, min}
use mathlib.Core.Path.{◌≡◌, refl, sym, ◌∙◌, ap}
use mathlib.Core.Bool.{Bool}
use mathlib.Core.List.{List, [], ◌∷◌}
use native.Mathlib.Omega.{arith}
use lib.Dec.{ltb, leb}
use lib.ListN.{length}
use borrow.Author.Tests.{lt-ltb, le-ltb}
use Rattle.std.proofs.Common.{true, false, None, Result, Ok, Err}
use Rattle.std.proofs.lemmas.Result.{MatchResult-at_ok, MatchResult-at_err}
use Rattle.std.specs.Result.{MatchResult, result_ok}
use Rattle.reasons.specs.declared.Reason.{Reason}
use Rattle.reasons.specs.declared.Reason.TheVariants.{BigExponent, NoRoom}
use Rattle.algebra.specs.Residues.{pick}
use Rattle.algebra.specs.Monomials.{Letters, Numbers}
use Rattle.algebra.specs.Orders.{Lex, Rising}
use Rattle.algebra.specs.Polynomials.{Poly, mul, norm}
use Rattle.algebra.proofs.NormalForm.{norm_unique}
use Rattle.algebra.proofs.Ring.{mul_comm}
use Rattle.monomial.specs.Layout.{base}
use Rattle.poly.specs.Words.{records, span, poly_of, cleared}
use Rattle.poly.specs.Valid.{Valid}
use Rattle.poly.proofs.Readings.{coded_poly, valid_coded}
use Rattle.poly.proofs.Transport.{coded_mul, coded_norm}
use Rattle.refusals.specs.Reports.{none, or_else, first_or}
use Rattle.refusals.specs.Rules.{work_rule}
use Rattle.refusals.specs.declared.report.Report.{Report}
use Rattle.refusals.proofs.Reports.{fold_append, fold_passed}
use Rattle.refusals.proofs.Accepted.{work_passed}
use Rattle.calls.specs.Inputs.{two_inputs}
use Rattle.calls.specs.Outcomes.{Outcome, outcome, told, ended, room_reply}
use Rattle.calls.specs.Endings.{kept, left, roomed, told_of, Filled}
use Rattle.calls.proofs.Refusals.{refused_tells, passed_goes_on}
use Rattle.calls.proofs.Rooms.{Written, written_count, kept-holds, holding-none, ended_by, filled-reply, filled_written}
use Rattle.expansion.specs.Bursts.{burst_at}
use Rattle.product.specs.Products.{product_rules, multiplied, product_of}
use Rattle.expansion.proofs.Bursts.{burst_comm, products-fit}

module _ (p : ℕ) (rows cols room work : List ℕ) where
  abbrev first : Poly (Letters 4)
  first = poly_of base rows

  abbrev second : Poly (Letters 4)
  second = poly_of base cols

  abbrev whole : Poly (Letters 4)
  whole = norm (Lex 4) p (mul first second)

  -- what the product leaves with a reply
  abbrev by_reply : ℕ → Outcome
  by_reply reply = ended reply whole [] room [] work

  pub ends_burst : burst_at first second < 4 → (o : Outcome) → o ≡ outcome (told_of (Err BigExponent)) (left None room) [] (cleared work) → o ≡ multiplied p rows cols room work
  unfolding multiplied
  ends_burst h o e =
      e ∙ ap (λ (b : Bool). by_reply (pick b 9 (room_reply (length whole) room))) (sym (lt-ltb (burst_at first second) 4 h))

  module _ (pos : 0 < p) (vr : Valid p rows) (vc : Valid p cols) (h : 4 ≤ burst_at first second) where
    -- the products of all terms
    abbrev products : Poly Numbers
    products = mul (span rows 0 (records rows)) (span cols 0 (records cols))

    pub product_coded : coded_poly base whole ≡ norm Rising p products
    product_coded =
        coded_norm p pos (mul first second) (products-fit first second h)
        ∙ ap (norm Rising p) (coded_mul first second ∙ (λ d. mul (valid_coded p rows vr d) (valid_coded p cols vc d)))

    -- what an end of counted terms is in numbers
    in_numbers : (n : ℕ) (s : List ℕ) (b : Bool) (e : Result ℕ Reason) (m : Result (ℕ × ℕ) Reason) → e ≡ pick b (Ok n) (Err NoRoom) →
        MatchResult e (λ k. m ≡ Ok (k, 0)) (λ d. m ≡ Err d) → (told_of m ≡ told (pick b 0 10) n 0) × (left (result_ok e) s ≡ kept (pick b 0 10) n s)
    in_numbers n s true e m f k = (ap told_of (MatchResult-at_ok _ _ n f k), ap (λ (x : Result ℕ Reason). left (result_ok x) s) f)
    in_numbers n s false e m f k = (ap told_of (MatchResult-at_err _ _ NoRoom f k), ap (λ (x : Result ℕ Reason). left (result_ok x) s) f)

    pub ends-filled : (s : List ℕ) (n : ℕ) → length s ≡ length room → Filled p products room s n → (e : Result ℕ Reason) → e ≡ roomed n s →
        (m : Result (ℕ × ℕ) Reason) → MatchResult e (λ k. m ≡ Ok (k, 0)) (λ d. m ≡ Err d) → (o : Outcome) →
        o ≡ outcome (told_of m) (left (result_ok e) s) [] (cleared work) → o ≡ multiplied p rows cols room work
    unfolding multiplied
    ends-filled s n same F e er m k o eo =
        let reply = room_reply n s in
        let t = in_numbers n s (leb n (records s)) e m er k in
        let W : reply ≡ 0 → Written whole s n = λ z. filled_written p whole products product_coded room s n F same z in
        eo ∙ (λ d. outcome (t.0 d) (t.1 d) [] (cleared work))
        ∙ ended_by reply whole [] room [] work _ _ [] _ n 0 refl (λ z. written_count (W z)) (λ z. refl)
        (kept-holds reply whole room s _ n same W refl) (sym (holding-none reply)) refl
        ∙ ap by_reply
        (filled-reply p whole products product_coded room s n F same
        ∙ ap (λ (b : Bool). pick b 9 (room_reply (length whole) room)) (sym (le-ltb (burst_at first second) 4 h)))

pub factors_exchanged : (p : ℕ) → 0 < p → (a b room work : List ℕ) → multiplied p a b room work ≡ multiplied p b a room work
unfolding multiplied
factors_exchanged p pos a b room work =
    let f = poly_of base a in
    let g = poly_of base b in
    let same = norm_unique (Lex 4) pos (mul_comm f g) in
    λ d. ended (pick (ltb (burst_comm f g d) 4) 9 (room_reply (length (same d)) room)) (same d) [] room [] work

-- The call: refused, or multiplied

module _ (p : ℕ) (a b room work : List ℕ) (r last : Report) (least : ℕ) (n : least ≡ 4 * min (records a) (records b))
    (e : r ≡ first_or (two_inputs p a b room) last) (f : last ≡ or_else (work_rule least work) none) where
  due : r ≡ first_or (product_rules p a b room work) none
  due =
      e
      ∙ ap (first_or (two_inputs p a b room)) (f ∙ ap (λ x. or_else (work_rule x work) none) n)
      ∙ sym (fold_append (two_inputs p a b room) (work_rule (4 * min (records a) (records b)) work ∷ []) none)

  pub product-refused : (r.number ≡ 0 → ⊥) → outcome r room [] work ≡ product_of p a b room work
  unfolding product_of
  product-refused k = refused_tells (product_rules p a b room work) r due room [] work (multiplied p a b room work) k

  pub product_goes_on : (o : Outcome) → r.number ≡ 0 → o ≡ multiplied p a b room work → o ≡ product_of p a b room work
  unfolding product_of
  product_goes_on o z g = g ∙ passed_goes_on (product_rules p a b room work) r due room [] work (multiplied p a b room work) z

  pub work_suffices : last.number ≡ 0 → 4 * min (records a) (records b) ≤ length work
  work_suffices z =
      let rule : (work_rule least work).number ≡ 0 = (fold_passed (work_rule least work ∷ []) none (ap (λ (x : Report). x.number) (sym f) ∙ z)).0.0 in
      omega (arith, work_passed least work rule, n)
