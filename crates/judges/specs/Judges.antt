-- What stops a walk: the judges of division and of the divide test.
--
--   unless_full i room n    the reply n where a room for so many terms already holds them
--   division_judges g q r   division's stops, with room for q quotient and r remainder terms: 9 where an exponent of the
--                           quotient term plus M(g, v) is over the largest, else 10 where the quotient room is full; 11
--                           where the remainder room is full
--   test_judges f g q       the divide test's: 12 where an exponent of the quotient term plus M(g, v) is over M(f, v), else
--                           10 where the room is full; 12 for any remainder term
--   steps                   more steps than a walk takes: more than there are monomial words
--   walk_by p J f g         the walk down f by the divisor g
use Rattle.std.specs.Prelude.{ℕ, ◌^◌, [], ◌∷◌, ltb}
use Rattle.algebra.specs.Residues.{pick}
use Rattle.algebra.specs.Monomials.{Letters}
use Rattle.algebra.specs.Orders.{Lex}
use Rattle.algebra.specs.Polynomials.{Poly}
use Rattle.algebra.specs.Walk.{Judges, Walked, stopped, walk}
use Rattle.monomial.specs.Layout.{fits, divides}
use Rattle.poly.specs.Profiles.{maxima}

-- the reply n where a room for so many terms already holds them
abbrev pub unless_full : ℕ → ℕ → ℕ → ℕ
unless_full terms room n = pick (ltb terms room) 0 n

-- the exponents of t times the maxima of g are the exponents of t plus M(g, v)
abbrev pub division_judges : Poly (Letters 4) → ℕ → ℕ → Judges (Letters 4)
division_judges g q r =
    record {
      on_quotient = λ i t. pick (fits 16 4 ((Letters 4).mul t.mon (maxima g))) (unless_full i q 10) 9;
      on_remainder = λ j u. unless_full j r 11;
    }

abbrev pub test_judges : Poly (Letters 4) → Poly (Letters 4) → ℕ → Judges (Letters 4)
test_judges f g q =
    record {
      on_quotient = λ i t. pick (divides 4 ((Letters 4).mul t.mon (maxima g)) (maxima f)) (unless_full i q 10) 12;
      on_remainder = λ j u. 12;
    }

unfoldable pub steps : ℕ
steps = 2 ^ 64

-- a divisor that is zero is refused before
abbrev pub walk_by : ℕ → Judges (Letters 4) → Poly (Letters 4) → Poly (Letters 4) → Walked (Letters 4)
walk_by p J f [] = stopped 0 f
walk_by p J f (lead ∷ later) = walk (Lex 4) p lead later J steps 0 0 f
