-- One more row in the tree.
--
--   awaited-append         the products of some rows, and of those after them
--   adds                   a leaf that was empty now waits: the climb ended at the root, and what is left has the new products
--   row_written            a row may be written while its leaf is empty: the tree holds, and the same products are left
--   root_stands            the product at the root's key is among those left
use Prim.Native.Nat.{ℕ, zero, suc, ◌+◌, ◌-◌, ◌*◌, ◌/◌, ◌^◌, ◌<◌, ◌≤◌}
use mathlib.Core.Path.{◌≡◌, refl, sym, ◌∙◌, ap, subst}
use mathlib.Core.List.{List, ◌++◌, append_assoc}
use mathlib.Core.Logic.{◌⊎◌, inl, inr}
use native.Mathlib.Nat.{le_refl, add-zero, zero-add}
use native.Mathlib.Decide.{ℕ_discrete}
use native.Mathlib.Omega.{arith}
use Rattle.algebra.specs.Monomials.{Numbers}
use Rattle.algebra.specs.Polynomials.{term, Poly, count, times}
use Rattle.algebra.proofs.Sorted.{count-append, head_count}
use Rattle.poly.specs.Words.{records, word_at, coef_at, span}
use Rattle.tree.specs.declared.Node.{Node}
use Rattle.tree.specs.Tree.{tag_at, Tree, Settled, row_of, column_of, Product, Waits, pending, awaited, Live, Climbed, Added}
use Rattle.poly.proofs.Records.{put, put-length, put_other}
use Rattle.tree.proofs.Ways.{settled_root, root_settled, tree_greatest, Leaf, tree_leaf}
use Rattle.tree.proofs.Taking.{Hand, hand, waits_same, pending_same, awaited_same, row_term, pending-at, pending_empty, pending-first}

module _ (rows cols : List ℕ) where
  pub awaited-append : (w : List ℕ) (i n m : ℕ) → awaited rows cols w i (n + m) ≡ awaited rows cols w i n ++ awaited rows cols w (i + n) m
  awaited-append w i zero m = λ d. awaited rows cols w (sym (add-zero i) d) (zero-add m d)
  awaited-append w i (suc n) m =
      let more : suc n + m ≡ suc (n + m) = omega arith in
      let place : suc i + n ≡ i + suc n = omega arith in
      ap (awaited rows cols w i) more
      ∙ ap (λ (f : Poly Numbers). pending rows cols w i ++ f) (awaited-append w (suc i) n m ∙ ap (λ x. awaited rows cols w (suc i) n ++ awaited rows cols w x m) place)
      ∙ sym (append_assoc (pending rows cols w i) (awaited rows cols w (suc i) n) (awaited rows cols w (i + suc n) m))

  -- the products of one row, of those before it, and of those after it
  pub awaited_split : (w : List ℕ) (row : ℕ) → row < records rows →
      awaited rows cols w 0 (records rows) ≡ awaited rows cols w 0 row ++ (pending rows cols w row ++ awaited rows cols w (suc row) (records rows - suc row))
  awaited_split w row h =
      let n : records rows ≡ row + suc (records rows - suc row) = omega arith in
      ap (awaited rows cols w 0) n ∙ awaited-append w 0 row (suc (records rows - suc row))
      ∙ ap (λ x. awaited rows cols w 0 row ++ awaited rows cols w x (suc (records rows - suc row))) (zero-add row)

  pub root_stands : (w : List ℕ) → Live rows cols w → 0 < records rows → 0 < word_at w 1 → 0 < count (word_at w 1 - 1) (awaited rows cols w 0 (records rows))
  root_stands w l some h =
      let tag = tag_at w 1 in
      let x : Hand rows cols w (word_at w 1) tag = hand rows cols w 1 (word_at w 1) h (le_refl 1) (omega arith) (root_settled (records rows) w 1 l.tree) l.waiting refl in
      let row = row_of tag in
      let here : 0 < count (word_at w 1 - 1) (pending rows cols w row) =
      subst (λ f. 0 < count (word_at w 1 - 1) f) (sym (pending-first rows cols w (word_at w 1) tag h x))
      (head_count (term {K = Numbers} (word_at w 1 - 1) (coef_at rows row * coef_at cols (column_of tag)))
      (times (row_term rows cols row) (span cols (suc (column_of tag)) (records cols - suc (column_of tag))))) in
      omega (
        arith,
        ap (count (word_at w 1 - 1)) (awaited_split w row x.row),
        count-append {K = Numbers} (word_at w 1 - 1) (awaited rows cols w 0 row) (pending rows cols w row ++ awaited rows cols w (suc row) (records rows - suc row)),
        count-append {K = Numbers} (word_at w 1 - 1) (pending rows cols w row) (awaited rows cols w (suc row) (records rows - suc row)),
      )

  module _ (w : List ℕ) (row column k : ℕ) (h : row < records rows) (few : records rows < 2 ^ 32) (g : column < records cols)
      (few' : records cols < 2 ^ 32) (empty : word_at w (records rows + row) ≡ 0) (new : word_at rows row + word_at cols column + 1 < k) (root : word_at w 1 < k) (l : Live rows cols w) where
    -- the new leaf's tag
    abbrev tag : ℕ
    tag = row * 2 ^ 32 + column

    abbrev key : ℕ
    key = word_at rows row + word_at cols column + 1

    tag_row : row_of tag ≡ row
    tag_row = omega arith

    tag_column : column_of tag ≡ column
    tag_column = omega arith

    module _ (leaf : Node) (made : (leaf.key ≡ key) × (leaf.tag ≡ tag)) (w' : List ℕ) (e : ℕ) (c : Climbed (records rows) (records rows + row) leaf.key leaf.tag k w w' e) where
      keyed : word_at w' (records rows + row) ≡ key
      keyed = c.keyed ∙ made.0

      tagged : tag_at w' (records rows + row) ≡ tag
      tagged = c.tagged ∙ made.1

      other : (i : ℕ) → i < records rows → (i ≡ row → ⊥) → (word_at w' (records rows + i) ≡ word_at w (records rows + i)) × (tag_at w' (records rows + i) ≡ tag_at w (records rows + i))
      other i b n = c.others (records rows + i) (omega arith) (omega arith) (λ d. n (omega arith))

      -- every leaf's key is below k
      leaf_lower : (y : ℕ) → records rows ≤ y → y < 2 * records rows → word_at w' y < k
      leaf_lower y f b = go (ℕ_discrete y (records rows + row))
        where
          go : Dec (y ≡ records rows + row) → word_at w' y < k
          go (yes d) = omega (arith, ap (word_at w') d, keyed)
          go (no d) = omega (arith, (c.others y f b d).0, tree_greatest (records rows) w l.tree y (omega arith) b)

      at_lower : (x : ℕ) → Leaf (records rows) w' x → word_at w' x < k
      at_lower x y = omega (arith, y.copy.key, leaf_lower y.leaf y.from y.within)

      at-root : e ≡ 1
      at-root = go c.found
        where
          go : (e ≡ 1) ⊎ (word_at w' e ≡ k) → e ≡ 1
          go (inl d) = d
          go (inr d) = absurd (omega (arith, at_lower e (tree_leaf (records rows) w' e c.settled c.from c.within)))

      settled : Settled (records rows) 1 w'
      settled = subst (λ x. Settled (records rows) x w') at-root c.settled

      waits : (i : ℕ) → i < records rows → Waits rows cols w' i
      waits i b = elim (ℕ_discrete i row) [
        | no n ↦ let o = other i b n in waits_same rows rows cols w w' i o.0 o.1 refl (l.waiting i b)
        | yes d ↦
            let here : Product rows cols w' row = record {
              row = ap row_of tagged ∙ tag_row;
              column = omega (arith, ap column_of tagged ∙ tag_column);
              key = keyed ∙ ap (λ x. word_at rows row + word_at cols x + 1) (sym (ap column_of tagged ∙ tag_column));
            } in
            subst (Waits rows cols w') (sym d) (record { waits = inr here })
      ]

      same_pending : (i : ℕ) → i < records rows → (i ≡ row → ⊥) → pending rows cols w i ≡ pending rows cols w' i
      same_pending i b n = let o = other i b n in pending_same rows rows cols w w' i o.0 o.1 refl refl

      new-pending : pending rows cols w' row ≡ times (row_term rows cols row) (span cols column (records cols - column))
      new-pending =
          pending-at rows cols w' row tag tagged (omega (arith, keyed))
          ∙ ap (λ x. times (row_term rows cols row) (span cols x (records cols - x))) tag_column

      pub adds : Added rows cols row column k w w'
      adds =
          let front : awaited rows cols w' 0 row ≡ awaited rows cols w 0 row = sym (awaited_same rows rows cols w w' 0 row (λ j f b. same_pending j (omega arith) (λ d. omega arith))) in
          let back : awaited rows cols w' (suc row) (records rows - suc row) ≡ awaited rows cols w (suc row) (records rows - suc row) =
          sym (awaited_same rows rows cols w w' (suc row) (records rows - suc row) (λ j f b. same_pending j (omega arith) (λ d. omega arith))) in
          record {
            as_long = c.as_long;
            live = record { long = omega (arith, c.as_long, l.long); tree = settled_root (records rows) w' settled; waiting = waits };
            before = awaited rows cols w 0 row;
            after = awaited rows cols w (suc row) (records rows - suc row);
            was = awaited_split w row h ∙ ap (λ (f : Poly Numbers). awaited rows cols w 0 row ++ (f ++ awaited rows cols w (suc row) (records rows - suc row))) (pending_empty rows cols w row empty);
            becomes = awaited_split w' row h ∙ (λ d. front d ++ (new-pending d ++ back d));
            others = λ i b n. (other i b n).0;
            lower = at_lower 1 (tree_leaf (records rows) w' 1 settled (le_refl 1) (omega arith));
          }

-- A row that is written while nothing waits for it

module _ (rows cols w : List ℕ) (row m c : ℕ) (empty : word_at w (records rows + row) ≡ 0) where
  abbrev rows' : List ℕ
  rows' = put rows row m c

  same : records rows' ≡ records rows
  same = ap (λ (x : ℕ). x / 2) (put-length rows row m c)

  key_same : (i : ℕ) → word_at w (records rows' + i) ≡ word_at w (records rows + i)
  key_same i = ap (λ x. word_at w (x + i)) same

  tag_same : (i : ℕ) → tag_at w (records rows' + i) ≡ tag_at w (records rows + i)
  tag_same i = ap (λ x. tag_at w (x + i)) same

  nothing : (i : ℕ) → i ≡ row → word_at w (records rows + i) ≡ 0
  nothing i d = ap (λ x. word_at w (records rows + x)) d ∙ empty

  row_pending : (i : ℕ) → pending rows cols w i ≡ pending rows' cols w i
  row_pending i = elim (ℕ_discrete i row) [
    | yes d ↦ pending_empty rows cols w i (nothing i d) ∙ sym (pending_empty rows' cols w i (key_same i ∙ nothing i d))
    | no n ↦ let o = put_other rows row m c i n in pending_same rows rows' cols w w i (key_same i) (tag_same i) o.0 o.1
  ]

  row_waits : (i : ℕ) → Waits rows cols w i → Waits rows' cols w i
  row_waits i v = elim (ℕ_discrete i row) [
    | yes d ↦ record { waits = inl (key_same i ∙ nothing i d) }
    | no n ↦ waits_same rows rows' cols w w i (key_same i) (tag_same i) (put_other rows row m c i n).0 v
  ]

  pub row_written : Live rows cols w → Live rows' cols w × (awaited rows cols w 0 (records rows) ≡ awaited rows' cols w 0 (records rows'))
  row_written l = (
    record {
      long = omega (arith, l.long, same);
      tree = subst (λ n. Tree n w) (sym same) l.tree;
      waiting = λ i h. row_waits i (l.waiting i (omega (arith, same)));
    },
    awaited_same rows rows' cols w w 0 (records rows) (λ j f b. row_pending j) ∙ ap (awaited rows' cols w 0) (sym same),
  )
