-- Sum and difference by merging: what the engine's own functions promise one another. No caller of a public function meets it.
--
--   unmerged p minus a b i j   the terms of a from record i on, and those of b, signed, from record j on
--   front_at s i               the key of record i and its coefficient; both 0 behind the last record
--   Greatest                   the greatest monomial of what is unmerged, its coefficient, and the places behind it
use Rattle.std.specs.Prelude.{ℕ, ◌+◌, ◌-◌, ◌<◌, ◌≤◌, Bool, List, ◌∷◌, ◌++◌, ltb}
use Rattle.algebra.specs.Residues.{pick}
use Rattle.algebra.specs.Monomials.{Numbers}
use Rattle.algebra.specs.Orders.{Rising}
use Rattle.algebra.specs.Polynomials.{term, Poly, Equal, signed, Below}
use Rattle.poly.specs.Words.{records, coef_at, span}
use Rattle.poly.specs.Keys.{key_at}
use Rattle.merging.specs.declared.Front.{Front}
use Rattle.merging.specs.declared.Lead.{Lead}

abbrev pub unmerged : ℕ → Bool → List ℕ → List ℕ → ℕ → ℕ → Poly Numbers
unmerged p minus a b i j = span a i (records a - i) ++ signed p minus (span b j (records b - j))

abbrev pub front_at : List ℕ → ℕ → Front
front_at s i = record { key = key_at s i; coef = pick (ltb i (records s)) (coef_at s i) 0 }

pub record Greatest (p : ℕ) (minus : Bool) (a b : List ℕ) (i j : ℕ) (r : Lead) : Type 0 where
  pub onward : i + j < r.first + r.second
  pub first_within : r.first ≤ records a
  pub second_within : r.second ≤ records b
  pub small : r.coef < p
  pub sums : Equal p (unmerged p minus a b i j) (term r.word r.coef ∷ unmerged p minus a b r.first r.second)
  pub lower : Below Rising r.word (unmerged p minus a b r.first r.second)
