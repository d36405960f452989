-- The terms of a product, one after the other.
--
--   waiting                  all that waits in a tree
--   taken-step               a monomial that is taken out of the tree is a step of filling
use Prim.Native.Nat.{ℕ, suc, ◌-◌, ◌<◌}
use mathlib.Core.Path.{◌≡◌}
use mathlib.Core.List.{List}
use native.Mathlib.Omega.{arith}
use Rattle.algebra.specs.Monomials.{Numbers}
use Rattle.algebra.specs.Polynomials.{Poly}
use Rattle.poly.specs.Words.{records, word_at}
use Rattle.calls.proofs.Filling.{Step}
use Rattle.tree.specs.Tree.{awaited, Taken}
use Rattle.tree.proofs.Planting.{awaited_below}

-- all that waits in a tree
abbrev pub waiting : List ℕ → List ℕ → List ℕ → Poly Numbers
waiting rows cols w = awaited rows cols w 0 (records rows)

pub taken-step : (p : ℕ) (rows cols : List ℕ) → ((i : ℕ) → suc i < records cols → word_at cols (suc i) < word_at cols i) → (w w' : List ℕ) (k c : ℕ) →
    k ≡ word_at w 1 → Taken p rows cols k w w' c → Step p (waiting rows cols w) (k - 1) c (waiting rows cols w')
taken-step p rows cols falls w w' k c e t =
    let low : word_at w' 1 < k = t.lower falls (omega arith) in
    record {
      small = t.small;
      sums = t.sums;
      lower = awaited_below rows cols w' t.live falls (k - 1) (omega arith);
    }
