-- Largest exponents and degrees of a slice.
--
--   measure_of s   the profile of a slice: term count, the four largest exponents, the largest total degree
--   maxima f       the monomial with the largest exponent of each letter in f: M(f, v) for every v
use Rattle.std.specs.Prelude.{ℕ, List, [], ◌∷◌}
use Rattle.algebra.specs.Monomials.{exponent, degree, Letters}
use Rattle.algebra.specs.Polynomials.{largest, Poly}
use Rattle.monomial.specs.Layout.{base}
use Rattle.poly.specs.Words.{records, poly_of}
use Rattle.poly.specs.declared.profile.Profile.{Profile}

unfoldable pub measure_of : List ℕ → Profile
measure_of s =
    let f = poly_of base s in
    record {
      terms = records s;
      exponents = largest (exponent 4 0) f ∷ largest (exponent 4 1) f ∷ largest (exponent 4 2) f ∷ largest (exponent 4 3) f ∷ [];
      total = largest (degree 4) f;
    }

abbrev pub maxima : Poly (Letters 4) → (Letters 4).Mon
maxima f = (largest (exponent 4 0) f, (largest (exponent 4 1) f, (largest (exponent 4 2) f, (largest (exponent 4 3) f, tt))))
