-- A tree that starts: its leaves are planted, and the records above them built.
--
--   build_more                           one record after the other, from the last to the root
--   starts                               a tree so built waits for every product
--   awaited_below                        where the columns fall, every product left is at most the root's
--   awaited-none                         nothing is left where the root is empty
use Prim.Native.Nat.{ℕ, zero, suc, ◌+◌, ◌-◌, ◌*◌, ◌^◌, ◌<◌, ◌≤◌}
use mathlib.Core.Path.{◌≡◌, refl, sym, ◌∙◌, ap, subst}
use mathlib.Core.List.{List, [], ◌++◌}
use mathlib.Core.Logic.{inl, inr}
use native.Mathlib.Decide.{ℕ_discrete}
use native.Mathlib.Omega.{arith}
use lib.ListN.{length}
use Rattle.algebra.specs.Monomials.{Numbers}
use Rattle.algebra.specs.Orders.{Rising}
use Rattle.algebra.specs.Polynomials.{term, times, mul, Below}
use Rattle.algebra.proofs.All.{all_append}
use Rattle.poly.specs.Words.{records, word_at, coef_at, span}
use Rattle.tree.specs.Tree.{tag_at, node_at, written, Holds, Greater, row_of, column_of, Product, Waits, pending, awaited, Live, Planted, Built, Started}
use Rattle.tree.specs.declared.Node.{Node}
use Rattle.poly.proofs.Records.{put-length, put_other}
use Rattle.tree.proofs.Ways.{greater_holds, holds_other, leaf_greatest}
use Rattle.tree.proofs.Taking.{pending-at, pending_empty}

-- one record more is built, where `up` is the greater of its children a and b
pub build_more : (n : ℕ) (w w' w'' : List ℕ) (j k : ℕ) (a b up : Node) → 4 * n ≤ length w → 1 ≤ j → j < n → k ≤ j + 1 → Built n w k w' →
    a ≡ node_at w' (2 * j) → b ≡ node_at w' (2 * j + 1) → Greater a b up → w'' ≡ written up j w' → Built n w j w''
build_more n w w' w'' j k a b up long from below near B e f g made =
    subst (Built n w j) (sym made)
    (record {
      as_long = put-length w' j up.key up.tag ∙ B.as_long;
      holds = λ i h l. elim (ℕ_discrete i j) [ yes d ↦ subst (Holds (written up j w')) (sym d) here | no d ↦ holds_other w' j up i d (λ x. omega arith) (B.holds i (omega arith) l) ];
      leaves =
          λ y h.
          let o = put_other w' j up.key up.tag y (λ d. omega arith) in
          let l = B.leaves y h in
          (o.0 ∙ l.0, o.1 ∙ l.1);
    })
  where
    here : Holds (written up j w') j
    here = greater_holds w' j up from (omega (arith, B.as_long)) (subst (λ (x : Node × Node). Greater x.0 x.1 up) (λ d. (e d, f d)) g)

module _ (rows cols : List ℕ) where
  -- the leaf of a row that waits at the first column
  first-pending : (w : List ℕ) (i : ℕ) → word_at w (records rows + i) ≡ word_at rows i + word_at cols 0 + 1 → tag_at w (records rows + i) ≡ i * 2 ^ 32 →
      pending rows cols w i ≡ times (term (word_at rows i) (coef_at rows i)) (span cols 0 (records cols))
  first-pending w i k t =
      let positive : 0 < word_at w (records rows + i) = omega arith in
      let column : column_of (i * 2 ^ 32) ≡ 0 = omega arith in
      let all : records cols - 0 ≡ records cols = omega arith in
      pending-at rows cols w i (i * 2 ^ 32) t positive
      ∙ ap (λ (x : ℕ). times (term {K = Numbers} (word_at rows i) (coef_at rows i)) (span cols x (records cols - x))) column
      ∙ ap (λ (x : ℕ). times (term {K = Numbers} (word_at rows i) (coef_at rows i)) (span cols 0 x)) all

  whole : (w w' : List ℕ) → Planted rows (word_at cols 0) w (records rows) w' → (i n : ℕ) → i + n ≤ records rows → awaited rows cols w' i n ≡ mul (span rows i n) (span cols 0 (records cols))
  whole w w' p i zero h = refl
  whole w w' p i (suc n) h =
      λ d. first-pending w' i (p.keyed i (omega arith)) (p.tagged i (omega arith)) d ++ whole w w' p (suc i) n (omega arith) d

  pub starts : (w w' w'' : List ℕ) → 0 < records cols → records rows < 2 ^ 32 → 4 * records rows ≤ length w →
      Planted rows (word_at cols 0) w (records rows) w' → Built (records rows) w' 1 w'' → Started rows cols w w''
  starts w w' w'' some few long p b =
      record {
        as_long = b.as_long ∙ p.as_long;
        live =
            record {
              long = omega (arith, b.as_long, p.as_long);
              tree = record { holds = b.holds };
              waiting = λ i h. record { waits = inr (product i h) };
            };
        whole = whole w w'' planted 0 (records rows) (omega arith);
      }
    where
      planted : Planted rows (word_at cols 0) w (records rows) w''
      planted =
          record {
            as_long = b.as_long ∙ p.as_long;
            within = p.within;
            keyed = λ i h. (b.leaves (records rows + i) (omega arith)).0 ∙ p.keyed i h;
            tagged = λ i h. (b.leaves (records rows + i) (omega arith)).1 ∙ p.tagged i h;
          }

      product : (i : ℕ) → i < records rows → Product rows cols w'' i
      product i h =
          let tag : tag_at w'' (records rows + i) ≡ i * 2 ^ 32 = planted.tagged i h in
          let row : row_of (i * 2 ^ 32) ≡ i = omega arith in
          let column : column_of (i * 2 ^ 32) ≡ 0 = omega arith in
          record {
            row = ap row_of tag ∙ row;
            column = omega (arith, ap column_of tag ∙ column);
            key = planted.keyed i h ∙ ap (λ x. word_at rows i + word_at cols x + 1) (sym (ap column_of tag ∙ column));
          }

  -- every product of a row with columns that fall is at most the first one
  times_below : ((i : ℕ) → suc i < records cols → word_at cols (suc i) < word_at cols i) → (k row column n : ℕ) → column + n ≤ records cols →
      (0 < n → word_at rows row + word_at cols column < k) → Below Rising k (times (term (word_at rows row) (coef_at rows row)) (span cols column n))
  times_below falls k row column zero h b = tt
  times_below falls k row column (suc n) h b =
      let here : word_at rows row + word_at cols column < k = b (omega arith) in
      (here, times_below falls k row (suc column) n (omega arith) (λ l. omega (arith, falls column (omega arith))))

  row_below : (w : List ℕ) → ((i : ℕ) → suc i < records cols → word_at cols (suc i) < word_at cols i) → (k i : ℕ) →
      word_at w (records rows + i) < suc k → Waits rows cols w i → Below Rising k (pending rows cols w i)
  row_below w falls k i h v =
      let c = column_of (tag_at w (records rows + i)) in
      elim v.waits [
        | inl z ↦ subst (Below Rising k) (sym (pending_empty rows cols w i z)) tt
        | inr q ↦ subst (Below Rising k) (sym (pending-at rows cols w i (tag_at w (records rows + i)) refl (omega (arith, q.key))))
            (times_below falls k i c (records cols - c) (omega (arith, q.column)) (λ l. omega (arith, q.key)))
      ]

  rows_below : (w : List ℕ) → ((i : ℕ) → suc i < records cols → word_at cols (suc i) < word_at cols i) → (k i n : ℕ) →
      ((j : ℕ) → j < i + n → word_at w (records rows + j) < suc k) → ((j : ℕ) → j < i + n → Waits rows cols w j) → Below Rising k (awaited rows cols w i n)
  rows_below w falls k i zero h v = tt
  rows_below w falls k i (suc n) h v =
      all_append (λ (m : ℕ). m < k) (pending rows cols w i) (awaited rows cols w (suc i) n)
      (row_below w falls k i (h i (omega arith)) (v i (omega arith)))
      (rows_below w falls k (suc i) n (λ j l. h j (omega arith)) (λ j l. v j (omega arith)))

  pub awaited_below : (w : List ℕ) → Live rows cols w → ((i : ℕ) → suc i < records cols → word_at cols (suc i) < word_at cols i) → (k : ℕ) →
      word_at w 1 < suc k → Below Rising k (awaited rows cols w 0 (records rows))
  awaited_below w l falls k h =
      rows_below w falls k 0 (records rows)
      (λ j b. omega (arith, leaf_greatest (records rows) w l.tree j (omega arith)))
      (λ j b. l.waiting j (omega arith))

  rows-none : (w : List ℕ) (i n : ℕ) → ((j : ℕ) → j < i + n → word_at w (records rows + j) ≡ 0) → awaited rows cols w i n ≡ []
  rows-none w i zero h = refl
  rows-none w i (suc n) h =
      λ d. pending_empty rows cols w i (h i (omega arith)) d ++ rows-none w (suc i) n (λ j l. h j (omega arith)) d

  pub awaited-none : (w : List ℕ) → Live rows cols w → word_at w 1 ≡ 0 → awaited rows cols w 0 (records rows) ≡ []
  awaited-none w l e =
      rows-none w 0 (records rows)
      (λ j b. omega (arith, leaf_greatest (records rows) w l.tree j (omega arith)))
