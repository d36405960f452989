-- A tree that grows.
--
--   Front rows rows'                 rows' begins with the rows of rows
--   grown_live, grown-awaited        the tree of more rows waits for what the smaller one did
--   grown-root                       and the key at its root is the same
use Prim.Native.Nat.{ℕ, zero, suc, ◌+◌, ◌-◌, ◌*◌, ◌<◌, ◌≤◌}
use mathlib.Core.Path.{◌≡◌, refl, sym, ◌∙◌, ap}
use mathlib.Core.List.{List, [], ◌++◌, append-nil}
use mathlib.Core.Logic.{inl}
use native.Mathlib.Nat.{le_antisymm}
use native.Mathlib.Decide.{dec_lt}
use native.Mathlib.Omega.{arith}
use lib.ListN.{length}
use Rattle.poly.specs.Words.{records, word_at, coef_at}
use Rattle.tree.specs.Tree.{Waits, pending, awaited, Live}
use Rattle.growth.specs.Growth.{Grown}
use Rattle.tree.proofs.Ways.{Leaf, root_settled, tree_leaf, leaf_greatest}
use Rattle.tree.proofs.Taking.{waits_same, pending_same, awaited_same, pending_empty}
use Rattle.tree.proofs.Adding.{awaited-append}

pub record Front (rows rows' : List ℕ) : Type 0 where
  pub fewer : records rows ≤ records rows'
  pub words : (i : ℕ) → i < records rows → word_at rows' i ≡ word_at rows i
  pub coefs : (i : ℕ) → i < records rows → coef_at rows' i ≡ coef_at rows i

module _ (rows rows' cols w w' : List ℕ) (F : Front rows rows') (L : Live rows cols w) (G : Grown (records rows) (records rows') w w') (long : 4 * records rows' ≤ length w) where
  -- the leaf of a row that was there
  waits : (i : ℕ) → i < records rows → Waits rows cols w i → Waits rows' cols w' i
  waits i h = waits_same rows rows' cols w w' i (G.moved i h).0 (G.moved i h).1 (F.words i h)

  pub grown_live : Live rows' cols w'
  grown_live =
      record {
        long = omega (arith, G.as_long);
        tree = G.tree;
        waiting = λ i h. elim (dec_lt i (records rows)) [ yes l ↦ waits i l (L.waiting i l) | no l ↦ record { waits = inl (G.empty i (omega arith) h) } ];
      }

  -- one row waits for what it did
  same_pending : (i : ℕ) → i < records rows → pending rows cols w i ≡ pending rows' cols w' i
  same_pending i h = pending_same rows rows' cols w w' i (G.moved i h).0 (G.moved i h).1 (F.words i h) (F.coefs i h)

  none-awaited : (i n : ℕ) → records rows ≤ i → i + n ≤ records rows' → awaited rows' cols w' i n ≡ []
  none-awaited i zero h k = refl
  none-awaited i (suc n) h k = λ d. pending_empty rows' cols w' i (G.empty i h (omega arith)) d ++ none-awaited (suc i) n (omega arith) (omega arith) d

  pub grown-awaited : awaited rows' cols w' 0 (records rows') ≡ awaited rows cols w 0 (records rows)
  grown-awaited =
      let n = records rows in
      let split : records rows' ≡ n + (records rows' - n) = omega (arith, F.fewer) in
      ap (awaited rows' cols w' 0) split
      ∙ awaited-append rows' cols w' 0 n (records rows' - n)
      ∙ (λ d. sym (awaited_same rows rows' cols w w' 0 n (λ i f b. same_pending i (omega arith))) d ++ none-awaited (0 + n) (records rows' - n) (omega arith) (omega (arith, F.fewer)) d)
      ∙ append-nil (awaited rows cols w 0 n)

  -- both roots are copies of leaves that the other tree has too
  pub grown-root : 0 < records rows → word_at w' 1 ≡ word_at w 1
  grown-root some = le_antisymm (after (tree_leaf (records rows') w' 1 (root_settled (records rows') w' 1 G.tree) (omega arith) (omega (arith, F.fewer))))
      (before (tree_leaf (records rows) w 1 (root_settled (records rows) w 1 L.tree) (omega arith) (omega arith)))
    where
      under : (y : ℕ) → y < records rows' → Dec (y < records rows) → word_at w' (records rows' + y) ≤ word_at w 1
      under y h (yes l) = omega (arith, (G.moved y l).0, leaf_greatest (records rows) w L.tree y (omega arith))
      under y h (no l) = omega (arith, G.empty y (omega arith) h)

      after : Leaf (records rows') w' 1 → word_at w' 1 ≤ word_at w 1
      after l =
          let y = l.leaf - records rows' in
          let same : records rows' + y ≡ l.leaf = omega (arith, l.from) in
          omega (arith, l.copy.key, ap (word_at w') same, under y (omega (arith, l.within)) (dec_lt y (records rows)))

      before : Leaf (records rows) w 1 → word_at w 1 ≤ word_at w' 1
      before l =
          let y = l.leaf - records rows in
          let same : records rows + y ≡ l.leaf = omega (arith, l.from) in
          omega (
            arith,
            l.copy.key,
            ap (word_at w) same,
            (G.moved y (omega (arith, l.within))).0,
            leaf_greatest (records rows') w' G.tree y (omega (arith, F.fewer, l.within)),
          )
