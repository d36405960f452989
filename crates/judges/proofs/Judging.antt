-- The judges on words.
--
--   prepared                              a plan with the words and the inverse of good inputs is ready
--   divisor_monomial                      the word of the divisor's maxima is a monomial
--   reply-word                            what a judge says of a quotient term, by its word
--   remainder_reply_lem, remainder-room   the same of a remainder term
--   by_passes, passes_room, passes_fits   where a quotient term passes there is room, and its products with the divisor's terms fit
use Prim.Native.Nat.{ℕ, ◌+◌, ◌^◌, ◌≤◌, ◌<◌}
use mathlib.Core.Path.{◌≡◌, refl, sym, ◌∙◌, ap}
use mathlib.Core.Bool.{Bool, true, false}
use mathlib.Core.List.{List}
use Rattle.std.specs.Prelude.{Option, Some, None, is_some}
use Rattle.std.specs.Option.{ForSome}
use native.Mathlib.Omega.{arith}
use lib.Dec.{ltb}
use borrow.Author.Tests.{ltb-true}
use Rattle.algebra.specs.Residues.{Prime, inverse, pick}
use Rattle.algebra.specs.Monomials.{Letters, exponent}
use Rattle.algebra.specs.Polynomials.{Term, term, Poly}
use Rattle.moduli.specs.Moduli.{limit}
use Rattle.monomial.specs.Layout.{base, is_monomial, divides}
use Rattle.monomial.proofs.Fields.{divides-fits}
use Rattle.monomial.proofs.Laws.{read, write, fit, word_monomial, word-read, sum_monomial, sum-divides}
use Rattle.poly.specs.Words.{records, word_at, coef_at, poly_of}
use Rattle.poly.specs.Valid.{Valid}
use Rattle.poly.proofs.Readings.{weight_within}
use Rattle.poly.specs.Profiles.{maxima}
use Rattle.judges.specs.Judges.{unless_full}
use Rattle.judges.specs.Plans.{is_test, judges_by, judges_of, quotient_reply, remainder_reply, Ready}
use Rattle.judges.specs.declared.Judge.{Judge}
use Rattle.poly.proofs.Maxima.{maxima-fits, under_maxima-fits}

-- what a plan has to be for a walk, the inputs being good
pub prepared : (p : ℕ) (f g : List ℕ) (inv : ℕ) (judge : Judge) →
    (Prime p × (p ≤ limit) × (0 < records g) × (records g < 2 ^ 32)) →
    Valid p f × Valid p g →
    inv ≡ inverse p (coef_at g 0) →
    judge.maxima ≡ write base (maxima (poly_of base g)) →
    ForSome judge.bounds (λ b. b ≡ write base (maxima (poly_of base f))) →
    Ready p f g inv judge
prepared p f g inv judge s valid inverted largest bounds =
    record {
      prime = s.0;
      positive = omega (arith, s.0.two);
      within = s.1;
      dividend = valid.0;
      divisor = valid.1;
      some = s.2;
      few = s.3;
      inverted = inverted;
      maxima_word = largest;
      maxima_fit = maxima-fits p g valid.1;
      bounds_word = bounds;
      bounds_fit = maxima-fits p f valid.0;
    }

-- a judge's reply is 0 only where its first test passes and there is room
pick_zero : (t : Bool) (x n : ℕ) → 0 < n → pick t x n ≡ 0 → (t ≡ true) × (x ≡ 0)
pick_zero true x n h e = (refl, e)
pick_zero false x n h e = absurd (omega arith)

full_zero : (i room n : ℕ) → 0 < n → unless_full i room n ≡ 0 → i < room
full_zero i room n h e = ltb-true i room (pick_zero (ltb i room) 0 n h e).0

module _ (f g : Poly (Letters 4)) (q r : ℕ) where
  by_word : (bounds : Option ℕ) (word i c divisor : ℕ) →
      is_monomial base word ≡ true →
      fit base (maxima g) ≡ true → fit base (maxima f) ≡ true →
      divisor ≡ write base (maxima g) → ForSome bounds (λ b. b ≡ write base (maxima f)) →
      (judges_by (is_some bounds) f g q r).on_quotient i (term (read base word) c) ≡ quotient_reply divisor bounds q word i
  by_word (Some dividend) word i c divisor h fg ff eg ef =
      let d = write base (maxima g) in
      let n = write base (maxima f) in
      ap (λ t. pick t (unless_full i q 10) 12)
      ((λ x. divides 4 ((Letters 4).mul (read base word) (sym (word-read base (maxima g) fg) x)) (sym (word-read base (maxima f) ff) x))
      ∙ sym (sum-divides base word d n h (word_monomial base (maxima g) fg) (word_monomial base (maxima f) ff)))
      ∙ (λ x. quotient_reply (sym eg x) (Some (sym (ef dividend refl) x)) q word i)
  by_word None word i c divisor h fg ff eg ef =
      let d = write base (maxima g) in
      ap (λ t. pick t (unless_full i q 10) 9)
      ((λ x. fit base ((Letters 4).mul (read base word) (sym (word-read base (maxima g) fg) x)))
      ∙ sym (sum_monomial base word d h (word_monomial base (maxima g) fg)))
      ∙ (λ x. quotient_reply (sym eg x) None q word i)

  pub by_passes : (b : Bool) (a : (Letters 4).Mon) (i c : ℕ) →
      fit base (maxima f) ≡ true →
      (judges_by b f g q r).on_quotient i (term a c) ≡ 0 →
      (fit base ((Letters 4).mul a (maxima g)) ≡ true) × (i < q)
  by_passes true a i c ff e =
      let z = pick_zero (divides 4 ((Letters 4).mul a (maxima g)) (maxima f)) (unless_full i q 10) 12 (omega arith) e in
      (divides-fits 16 4 ((Letters 4).mul a (maxima g)) (maxima f) z.0 ff, full_zero i q 10 (omega arith) z.1)
  by_passes false a i c ff e =
      let z = pick_zero (fit base ((Letters 4).mul a (maxima g))) (unless_full i q 10) 9 (omega arith) e in
      (z.0, full_zero i q 10 (omega arith) z.1)

  pub remainder_reply_lem : (b : Bool) (j : ℕ) (u : Term (Letters 4)) → (judges_by b f g q r).on_remainder j u ≡ remainder_reply b r j
  remainder_reply_lem true j u = refl
  remainder_reply_lem false j u = refl

pub remainder-room : (b : Bool) (room j : ℕ) → remainder_reply b room j ≡ 0 → j < room
remainder-room true room j e = absurd (omega arith)
remainder-room false room j e = full_zero j room 11 (omega arith) e

module _ {p : ℕ} {f g : List ℕ} {inv : ℕ} {judge : Judge} (R : Ready p f g inv judge) where
  pub divisor_monomial : is_monomial base judge.maxima ≡ true
  divisor_monomial = ap (is_monomial base) R.maxima_word ∙ word_monomial base (maxima (poly_of base g)) R.maxima_fit

  module _ (word : ℕ) (h : is_monomial base word ≡ true) (i c : ℕ) where
    -- what the judge says of this word
    abbrev pub judged : ℕ
    judged = quotient_reply judge.maxima judge.bounds judge.quotients word i

    pub reply-word : (judges_of f g judge).on_quotient i (term (read base word) c) ≡ judged
    reply-word =
        by_word (poly_of base f) (poly_of base g) judge.quotients judge.remainders judge.bounds word i c
        judge.maxima h R.maxima_fit R.bounds_fit R.maxima_word R.bounds_word

    module _ (e : judged ≡ 0) where
      passes : (fit base ((Letters 4).mul (read base word) (maxima (poly_of base g))) ≡ true) × (i < judge.quotients)
      passes =
          by_passes (poly_of base f) (poly_of base g) judge.quotients judge.remainders (is_test judge) (read base word) i c
          R.bounds_fit (reply-word ∙ e)

      pub passes_room : i < judge.quotients
      passes_room = passes.1

      pub passes_fits : (x : ℕ) → x < records g → is_monomial base (word + word_at g x) ≡ true
      passes_fits x l =
          sum_monomial base word (word_at g x) h (R.divisor.monomials x l)
          ∙ under_maxima-fits (read base word) (read base (word_at g x)) (poly_of base g) (λ v. weight_within g (exponent 4 v) x l) passes.0
