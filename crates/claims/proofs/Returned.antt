-- A product divided by a factor gives the other factor back.
--
--   returned_first, returned_second      the first factor where the second is the divisor, and the other way
--
-- x is what the product was lent, t its report and s what it left; y, u and v are the same of the division.
use Prim.Native.Nat.{ℕ, ◌*◌, ◌≤◌}
use mathlib.Core.Path.{◌≡◌, sym, ap, subst, transport}
use mathlib.Core.List.{List}
use mathlib.Core.Logic.{inl}
use lib.ListN.{length, take}
use Rattle.algebra.specs.Polynomials.{Equal, mul}
use Rattle.algebra.proofs.NormalForm.{equal_trans}
use Rattle.algebra.proofs.Ring.{mul_comm}
use Rattle.monomial.specs.Layout.{base}
use Rattle.poly.specs.Words.{records, poly_of, filled, cleared}
use Rattle.poly.specs.Valid.{Valid}
use Rattle.refusals.specs.Reports.{none, done, first_or}
use Rattle.division.specs.Division.{divide_rules}
use Rattle.product.proofs.product.Reads as product
use Rattle.division.proofs.division.divide.Reads as divide
use Rattle.claims.specs.Demands.{P}
use Rattle.claims.proofs.Product.{product_good, product-result}
use Rattle.claims.proofs.Division.{division_returns}

module _ (κs : _) (x : _) (t : _) (s : _) (post : product.Post κs x t s) (κt : _) (y : _) (u : _) (v : _) (post' : divide.Post κt y u v) where
  -- the factors and the product
  abbrev a : List ℕ
  a = x.1.0.now

  abbrev b : List ℕ
  b = x.1.1.0.now

  abbrev room' : List ℕ
  room' = s.1.1.1.0.now

  -- the division
  abbrev p : ℕ
  p = y.0

  abbrev f : List ℕ
  f = y.1.0.now

  abbrev g : List ℕ
  g = y.1.1.0.now

  abbrev q : List ℕ
  q = y.1.1.1.0.now

  abbrev r : List ℕ
  r = y.1.1.1.1.0.now

  abbrev work : List ℕ
  work = y.1.1.1.1.1.0.now

  -- the other factor c stands in the quotient room, alone
  abbrev Gives : List ℕ → Type 0
  Gives c =
      (u ≡ done (records c) 0)
      × (v.1.1.1.0.now ≡ filled (length q) c)
      × (v.1.1.1.1.0.now ≡ cleared r)
      × (v.1.1.1.1.1.0.now ≡ cleared work)

  module _ (same : x.0 ≡ p) (h : t.number ≡ 0) (lent : f ≡ take (2 * t.first) room') (z : (first_or (divide_rules p f g q r work) none).number ≡ 0) where
    -- the dividend lent again is the product
    again : Equal x.0 (poly_of base f) (mul (poly_of base a) (poly_of base b))
    again =
        subst (λ (k : P). Equal x.0 k (mul (poly_of base a) (poly_of base b))) (sym (ap (poly_of base) lent)) (product-result κs x t s post h).equal

    returned : (c d : List ℕ) → Valid x.0 c → Equal x.0 (poly_of base f) (mul (poly_of base c) (poly_of base d)) → g ≡ d → records c ≤ records q → Gives c
    returned c d good equal factor room =
        division_returns κt y u v post' z c (subst (λ (n : ℕ). Valid n c) same good)
        (transport (λ i. Equal (same i) (poly_of base f) (mul (poly_of base c) (poly_of base (sym factor i)))) equal) room

    pub returned_first : g ≡ b → records a ≤ records q → Gives a
    returned_first = returned a b (product_good κs x t s post (inl h)).2 again

    pub returned_second : g ≡ a → records b ≤ records q → Gives b
    returned_second =
        returned b a (product_good κs x t s post (inl h)).3 (equal_trans again (mul_comm (poly_of base a) (poly_of base b)))
