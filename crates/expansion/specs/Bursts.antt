-- Which products have an exponent that is too large.
--
--   burst_at f g   the first letter v with M(f, v) + M(g, v) over the largest exponent; the number of letters if none
--   Bursts a b     some letter v has M(a, v) + M(b, v) over the largest exponent
use Rattle.std.specs.Prelude.{ℕ, ◌+◌, ◌<◌, List, ltb}
use Rattle.algebra.specs.Residues.{first}
use Rattle.algebra.specs.Monomials.{Letters, exponent}
use Rattle.algebra.specs.Polynomials.{Poly, largest}
use Rattle.monomial.specs.Layout.{base, largest_exponent}
use Rattle.poly.specs.Words.{poly_of}

abbrev pub burst_at : Poly (Letters 4) → Poly (Letters 4) → ℕ
burst_at f g = first (λ v. ltb (largest_exponent 16) (largest (exponent 4 v) f + largest (exponent 4 v) g)) 0 4

pub record Bursts (a b : List ℕ) : Type 0 where
  pub letter : ℕ
  pub one_of_four : letter < 4
  pub over : largest_exponent 16 < largest (exponent 4 letter) (poly_of base a) + largest (exponent 4 letter) (poly_of base b)
