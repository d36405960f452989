-- What a walk computes once, and its judges on words: what the engine's own functions promise one another.
--
--   is_test                whether a judge is the divide test's
--   judges_by, judges_of   the stops of a call: division's, or the divide test's
--   quotient_reply         what the judge of quotient terms says of a word
--   remainder_reply        what the judge of remainder terms says
--   Ready                  all that a walk asks of its inputs, and what was computed once
use Rattle.std.specs.Prelude.{ℕ, ◌+◌, ◌^◌, ◌<◌, ◌≤◌, ◌≡◌, Bool, true, false, List, Option, Some, None, is_some}
use Rattle.std.specs.Option.{ForSome}
use Rattle.algebra.specs.Residues.{Prime, inverse, pick}
use Rattle.algebra.specs.Monomials.{Letters}
use Rattle.algebra.specs.Polynomials.{Poly}
use Rattle.algebra.specs.Walk.{Judges}
use Rattle.moduli.specs.Moduli.{limit}
use Rattle.monomial.specs.Layout.{base, is_monomial, word_divides, fits, word_of}
use Rattle.poly.specs.Words.{records, coef_at, poly_of}
use Rattle.poly.specs.Valid.{Valid}
use Rattle.poly.specs.Profiles.{maxima}
use Rattle.judges.specs.Judges.{unless_full, division_judges, test_judges}
use Rattle.judges.specs.declared.Judge.{Judge}

abbrev pub is_test : Judge → Bool
is_test judge = is_some judge.bounds

abbrev pub judges_by : Bool → Poly (Letters 4) → Poly (Letters 4) → ℕ → ℕ → Judges (Letters 4)
judges_by true f g q r = test_judges f g q
judges_by false f g q r = division_judges g q r

abbrev pub judges_of : List ℕ → List ℕ → Judge → Judges (Letters 4)
judges_of f g judge = judges_by (is_test judge) (poly_of base f) (poly_of base g) judge.quotients judge.remainders

-- by the words of the maxima of the divisor, and of the dividend in the divide test
abbrev pub quotient_reply : ℕ → Option ℕ → ℕ → ℕ → ℕ → ℕ
quotient_reply largest (Some bounds) room word i = pick (word_divides base (word + largest) bounds) (unless_full i room 10) 12
quotient_reply largest None room word i = pick (is_monomial base (word + largest)) (unless_full i room 10) 9

abbrev pub remainder_reply : Bool → ℕ → ℕ → ℕ
remainder_reply true room j = 12
remainder_reply false room j = unless_full j room 11

pub record Ready (p : ℕ) (f g : List ℕ) (inv : ℕ) (judge : Judge) : Type 0 where
  pub prime : Prime p
  pub positive : 0 < p
  pub within : p ≤ limit
  pub dividend : Valid p f
  pub divisor : Valid p g
  pub some : 0 < records g
  pub few : records g < 2 ^ 32
  pub inverted : inv ≡ inverse p (coef_at g 0)
  pub maxima_word : judge.maxima ≡ word_of 16 4 (maxima (poly_of base g))
  pub maxima_fit : fits 16 4 (maxima (poly_of base g)) ≡ true
  pub bounds_word : ForSome judge.bounds (λ b. b ≡ word_of 16 4 (maxima (poly_of base f)))
  pub bounds_fit : fits 16 4 (maxima (poly_of base f)) ≡ true
