-- `poly::profile::measure` meets its contract. The loop's invariant: each number is the largest of its kind in the records read so far.
use mathlib.Core.Path.{◌≡◌}
use Rattle.algebra.specs.Monomials.{exponent, degree}
use Rattle.algebra.specs.Polynomials.{largest}
use Rattle.monomial.specs.Layout.{base}
use Rattle.poly.specs.Words.{terms}
use Rattle.poly.proofs.profile.measure.Given as goal

abbrev pub invariant-loop-word : goal.invariant-loop-word
invariant-loop-word l =
    record {
      x : l.x ≡ largest (exponent 4 0) (terms base l.s 0 l.word-index);
      y : l.y ≡ largest (exponent 4 1) (terms base l.s 0 l.word-index);
      z : l.z ≡ largest (exponent 4 2) (terms base l.s 0 l.word-index);
      t : l.t ≡ largest (exponent 4 3) (terms base l.s 0 l.word-index);
      total : l.total ≡ largest (degree 4) (terms base l.s 0 l.word-index);
    }
