-- What is claimed of the sum, shown of its contract as the check generates it from the source; sum and difference share one law.
--
--   combined_claims          whatever outcome the definition of both allows, `Combined` holds of it
--   result-coefficient       a coefficient of a result is that of the true sum
--   sum_claims               of the sum
--   sum_coefficients         with 0, at every monomial of any size the coefficient is the sum of the inputs'
use Prim.Native.Nat.{ℕ, ◌+◌, ◌<◌, ◌≤◌}
use mathlib.Core.Path.{◌≡◌, refl, sym, ◌∙◌, ap, subst}
use mathlib.Core.Bool.{Bool, true, false}
use mathlib.Core.List.{List, [], ◌∷◌, ◌++◌}
use mathlib.Core.Logic.{◌⊎◌, inl, inr, ◌↔◌}
use native.Mathlib.Decide.{dec_le}
use native.Mathlib.Omega.{arith}
use lib.ListN.{length}
use borrow.Author.Tests.{le-leb, lt-leb}
use Rattle.algebra.specs.Residues.{Same, pick}
use Rattle.algebra.specs.Monomials.{Letters}
use Rattle.algebra.specs.Orders.{Lex}
use Rattle.algebra.specs.Polynomials.{coef, signed, norm, All}
use Rattle.algebra.proofs.Residues.{same_eq, same_trans}
use Rattle.algebra.proofs.Totals.{coef-append}
use Rattle.algebra.proofs.All.{all_append, signed_all}
use Rattle.algebra.proofs.NormalForm.{norm_all, norm_normal, norm_equal, equal_trans, equal_sym, normal_unique}
use Rattle.monomial.specs.Layout.{base}
use Rattle.monomial.proofs.Laws.{fit}
use Rattle.poly.specs.Words.{records, poly_of}
use Rattle.poly.proofs.Readings.{valid_fits}
use Rattle.poly.proofs.Transport.{filled_poly}
use Rattle.refusals.specs.Reports.{none}
use Rattle.refusals.specs.Rules.{lent, room_terms}
use Rattle.refusals.specs.declared.report.Report.{Report}
use Rattle.refusals.proofs.Within.{within_first, refusals_within}
use Rattle.calls.specs.Inputs.{inputs, two_inputs}
use Rattle.calls.specs.Outcomes.{outcome, room_reply}
use Rattle.calls.proofs.Refusals.{Good, rules_good}
use Rattle.calls.proofs.Endings.{first_of, Ends, told-finished, refuses, replies, ends_unchanged, ends-cleared, ends_written}
use Rattle.sums.specs.Sums.{sum_of, combined_of}
use Rattle.sums.proofs.sum.Reads as sum
use Rattle.claims.specs.Demands.{P, front, Result, Combined}

module _ (p : ℕ) (minus : Bool) (a b room : List ℕ) (t : Report) (room' : List ℕ) (e : outcome t room' [] [] ≡ combined_of p minus a b room) where
  -- the true result, and its normal form
  abbrev h : P
  h = poly_of base a ++ signed p minus (poly_of base b)

  abbrev result : P
  result = norm (Lex 4) p h

  abbrev reply : ℕ
  reply = room_reply (length result) room

  is_ten : records room < length result → reply ≡ 10
  is_ten l = ap (λ (b : Bool). pick b 0 10) (lt-leb (length result) (records room) l)

  is_zero : length result ≤ records room → reply ≡ 0
  is_zero l = ap (λ (b : Bool). pick b 0 10) (le-leb (length result) (records room) l)

  ends : Ends (two_inputs p a b room) reply result [] room [] [] (outcome t room' [] [])
  ends =
      record {
        due_within = within_first (two_inputs p a b room) (refusals_within p (inputs a b) (lent 3 room room_terms ∷ []));
        reply_over = λ z. elim (dec_le (length result) (records room)) [ yes l ↦ inl (is_zero l) | no l ↦ inr (omega (arith, is_ten (omega arith))) ];
        ended = e;
      }

  abbrev Passes : Type 0
  Passes = (first_of (two_inputs p a b room)).number ≡ 0

  full : (t.number ≡ 10) ↔ (Passes × (records room < length result))
  full =
      let n = replies ends 10 (inr (omega arith)) in (
        λ k. let q = n.0 k in (q.0, elim (dec_le (length result) (records room)) [ yes l ↦ absurd (omega (arith, is_zero l, q.1)) | no l ↦ omega arith ]),
        λ k. n.1 (k.0, is_ten k.1),
      )

  fits : (t.number ≡ 0) ↔ (Passes × (length result ≤ records room))
  fits =
      let n = replies ends 0 (inl refl) in (
        λ k. let q = n.0 k in (q.0, elim (dec_le (length result) (records room)) [ yes l ↦ l | no l ↦ absurd (omega (arith, is_ten (omega arith), q.1)) ]),
        λ k. n.1 (k.0, is_zero k.1),
      )

  good : Passes → Good p a b
  good z = (rules_good p a b (lent 3 room room_terms ∷ []) (first_of (two_inputs p a b room)) none refl z).0

  -- with reply 0, the polynomial in the room
  in_room_lem : t.number ≡ 0 → front t.first room' ≡ result
  in_room_lem z =
      let o = ends_written ends z in
      let g = good (told-finished ends z).0 in
      let F : (Letters 4).Mon → Type 0 = λ m. fit base m ≡ true in
      let small : All F result =
      norm_all (Lex 4) g.positive F h
      (all_append F (poly_of base a) (signed p minus (poly_of base b)) (valid_fits p a g.first) (signed_all F p minus (poly_of base b) (valid_fits p b g.second))) in
      (λ d. front (o.0 d).first (o.1 d)) ∙ filled_poly result (length room) small

  positive : t.number ≡ 0 → 0 < p
  positive z = (good (told-finished ends z).0).positive

  pub combined_claims : Combined p a b h room t room'
  combined_claims =
      record {
        refuses = refuses ends;
        full = full;
        fits = fits;
        good = λ c. let g = good (passed c) in (g.prime, g.within, g.first, g.second);
        refused = record { unchanged = λ k l. (ends_unchanged ends k l).0; zero = λ k. (ends-cleared ends k).1 };
        stopped = λ k. let o = ends-cleared ends k in (ten k, o.0);
        written = λ z. let o = ends_written ends z in (o.0, o.1);
        result = λ z. subst (λ (f : P). Result p f h) (sym (in_room_lem z)) (record { equal = norm_equal (Lex 4) (positive z) h; normal = norm_normal (Lex 4) (positive z) h });
        count =
            λ z k n d. ap (λ (x : Report). x.first) (ends_written ends z).0
            ∙ ap length (normal_unique (Lex 4) result k (norm_normal (Lex 4) (positive z) h) n (equal_trans (norm_equal (Lex 4) (positive z) h) (equal_sym d)));
      }
    where
      passed : (t.number ≡ 0) ⊎ (8 < t.number) → Passes
      passed c = ((replies ends t.number c).0 refl).0

      ten : 8 < t.number → t.number ≡ 10
      ten k =
          let q = (replies ends t.number (inr k)).0 refl in
          elim (dec_le (length result) (records room)) [ yes l ↦ absurd (omega (arith, is_zero l, q.1)) | no l ↦ omega (arith, is_ten (omega arith), q.1) ]

-- at a monomial, the coefficient of what is in the room is that of the true result
pub result-coefficient : {p : ℕ} {f : P} (a b : P) → Result p f (a ++ b) → (m : (Letters 4).Mon) → Same p (coef f m) (coef a m + coef b m)
result-coefficient a b d m = same_trans (d.equal.equal m) (same_eq (coef-append a b m))

-- The sum

module _ (κs : _) (x : _) (t : _) (s : _) (post : sum.Post κs x t s) where
  abbrev p : ℕ
  p = x.0

  abbrev a : List ℕ
  a = x.1.0.now

  abbrev b : List ℕ
  b = x.1.1.0.now

  abbrev room : List ℕ
  room = x.1.1.1.0.now

  -- the room afterwards
  abbrev room' : List ℕ
  room' = s.1.1.1.0.now

  pub sum_claims : Combined p a b (poly_of base a ++ poly_of base b) room t room'
  unfolding sum_of
  sum_claims = combined_claims p false a b room t room' post

  pub sum_coefficients : t.number ≡ 0 → (m : (Letters 4).Mon) → Same p (coef (front t.first room') m) (coef (poly_of base a) m + coef (poly_of base b) m)
  sum_coefficients z = result-coefficient (poly_of base a) (poly_of base b) (sum_claims.result z)
