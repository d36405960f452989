-- What is claimed of the difference, shown of its contract as the check generates it from the source.
--
--   difference_claims        `Combined` holds of it
--   difference_coefficients  with 0, at every monomial of any size the coefficient is the difference of the inputs'
use Prim.Native.Nat.{ℕ, ◌+◌, ◌<◌}
use mathlib.Core.Path.{◌≡◌}
use mathlib.Core.Bool.{true}
use mathlib.Core.List.{List, ◌++◌}
use mathlib.Core.Logic.{inl}
use native.Mathlib.Nat.{add-zero}
use native.Mathlib.Omega.{arith}
use Rattle.algebra.specs.Residues.{Same}
use Rattle.algebra.specs.Monomials.{Letters}
use Rattle.algebra.specs.Polynomials.{coef, negated}
use Rattle.algebra.proofs.Residues.{same_eq, same_refl, same_trans, same_add, same_minus}
use Rattle.algebra.proofs.Ring.{coef-negated}
use Rattle.algebra.proofs.Leads.{prime_positive}
use Rattle.monomial.specs.Layout.{base}
use Rattle.poly.specs.Words.{poly_of}
use Rattle.sums.specs.Sums.{difference_of}
use Rattle.sums.proofs.difference.Reads as difference
use Rattle.claims.specs.Demands.{front, Combined}
use Rattle.claims.proofs.Sums.{combined_claims, result-coefficient}

module _ (κs : _) (x : _) (t : _) (s : _) (post : difference.Post κs x t s) where
  abbrev p : ℕ
  p = x.0

  abbrev a : List ℕ
  a = x.1.0.now

  abbrev b : List ℕ
  b = x.1.1.0.now

  abbrev room : List ℕ
  room = x.1.1.1.0.now

  -- the room afterwards
  abbrev room' : List ℕ
  room' = s.1.1.1.0.now

  pub difference_claims : Combined p a b (poly_of base a ++ negated p (poly_of base b)) room t room'
  unfolding difference_of
  difference_claims = combined_claims p true a b room t room' post

  pub difference_coefficients : t.number ≡ 0 → (m : (Letters 4).Mon) →
      Same p (coef (front t.first room') m + coef (poly_of base b) m) (coef (poly_of base a) m)
  difference_coefficients z m =
      let f = coef (poly_of base a) m in
      let g = coef (poly_of base b) m in
      let pos : 0 < p = prime_positive (difference_claims.good (inl z)).0 in
      same_trans (same_add (result-coefficient (poly_of base a) (negated p (poly_of base b)) (difference_claims.result z) m) (same_refl {a = g}))
      (same_trans (same_eq (omega (arith, coef-negated p (poly_of base b) m)))
      (same_trans (same_add (same_refl {a = f}) (same_minus g pos)) (same_eq (add-zero f))))
