-- One product leaves the tree.
--
--   weigh ψ f, total-weigh, count-weigh   sums over the terms of f; totals, counts and lengths are such sums
--   waits_same, pending_same, awaited_same   rows whose leaves are as in another tree wait as they do there
--   awaited-less   where one row's first product goes, every sum over what is left falls by that product's part
--   Hand           the product in hand: its row, its column, and its key
--   hand           the record to be taken is the product of its own row and column
--   Taking, take-starts, take-steps, take-ends   the loop that takes all products of one key
use Prim.Native.Nat.{ℕ, zero, suc, ◌+◌, ◌-◌, ◌*◌, ◌%◌, ◌<◌, ◌≤◌}
use mathlib.Core.Path.{◌≡◌, refl, sym, ◌∙◌, ap, subst}
use mathlib.Core.List.{List, [], ◌∷◌, ◌++◌}
use mathlib.Core.Logic.{◌⊎◌, ◌≢◌, inl, inr}
use native.Mathlib.Nat.{mod-lt, le_refl, le_trans}
use native.Mathlib.Decide.{ℕ_discrete}
use native.Mathlib.Numerals.{add-one}
use native.Mathlib.Omega.{arith}
use lib.ListN.{length}
use Rattle.algebra.specs.Residues.{Same}
use Rattle.algebra.specs.Monomials.{Numbers}
use Rattle.algebra.specs.Polynomials.{Term, term, Poly, only, count, Equal, times}
use Rattle.algebra.proofs.Residues.{same_eq, same_refl, same_sym, same_trans, same_mod, same_add, same_mul}
use Rattle.algebra.proofs.Totals.{total, equal_by}
use Rattle.algebra.proofs.NormalForm.{equal_trans}
use Rattle.poly.specs.Words.{records, word_at, coef_at, span}
use Rattle.tree.specs.Tree.{tag_at, node_at, Settled, row_of, column_of, Product, Waits, unless_empty, pending, awaited, Sides, Live, Next, Climbed, Taken}
use Rattle.tree.specs.declared.Node.{Node}
use Rattle.tree.proofs.Ways.{settled_root, root_settled, tree_greatest, Leaf, tree_leaf}

-- Sums over the terms

abbrev pub weigh : (Term Numbers → ℕ) → Poly Numbers → ℕ
weigh ψ [] = 0
weigh ψ (u ∷ f) = ψ u + weigh ψ f

weigh-append : (ψ : Term Numbers → ℕ) (f g : Poly Numbers) → weigh ψ (f ++ g) ≡ weigh ψ f + weigh ψ g
weigh-append ψ [] g = omega arith
weigh-append ψ (u ∷ f) g = omega (arith, weigh-append ψ f g)

pub total-weigh : (φ : ℕ → ℕ) (f : Poly Numbers) → total φ f ≡ weigh (λ u. u.num * φ u.mon) f
total-weigh φ [] = refl
total-weigh φ (u ∷ f) = omega (arith, total-weigh φ f)

pub count-weigh : (m : ℕ) (f : Poly Numbers) → count m f ≡ weigh (λ u. only (Numbers.decide u.mon m) 1) f
count-weigh m [] = refl
count-weigh m (u ∷ f) = omega (arith, count-weigh m f)

pub length-weigh : (f : Poly Numbers) → length f ≡ weigh (λ u. 1) f
length-weigh [] = refl
length-weigh (u ∷ f) = omega (arith, length-weigh f)

-- Two trees

module _ (rows rows' cols w w' : List ℕ) where
  module _ (i : ℕ) (key : word_at w' (records rows' + i) ≡ word_at w (records rows + i)) (tag : tag_at w' (records rows' + i) ≡ tag_at w (records rows + i))
      (word : word_at rows' i ≡ word_at rows i) where
    pub waits_same : Waits rows cols w i → Waits rows' cols w' i
    waits_same v =
        record {
          waits =
              elim v.waits [
                | inl z ↦ inl (key ∙ z)
                | inr q ↦ inr (record {
                  row = ap row_of tag ∙ q.row;
                  column = subst (λ t. column_of t < records cols) (sym tag) q.column;
                  key = key ∙ q.key ∙ (λ d. sym word d + word_at cols (column_of (sym tag d)) + 1);
                })
              ];
        }

    pub pending_same : coef_at rows' i ≡ coef_at rows i → pending rows cols w i ≡ pending rows' cols w' i
    pending_same coef =
        λ d. unless_empty (sym key d) (times (term (sym word d) (sym coef d)) (span cols (column_of (sym tag d)) (records cols - column_of (sym tag d))))

  pub awaited_same : (i n : ℕ) → ((j : ℕ) → i ≤ j → j < i + n → pending rows cols w j ≡ pending rows' cols w' j) → awaited rows cols w i n ≡ awaited rows' cols w' i n
  awaited_same i zero h = refl
  awaited_same i (suc n) h =
      λ d. h i (le_refl i) (omega arith) d ++ awaited_same (suc i) n (λ j k l. h j (omega arith) (omega arith)) d

module _ (rows cols : List ℕ) where
  pub awaited-less : (w w' : List ℕ) (r : ℕ) (x : Term Numbers) → pending rows cols w r ≡ x ∷ pending rows cols w' r → (top : ℕ) →
      ((j : ℕ) → j < top → (j ≡ r → ⊥) → pending rows cols w j ≡ pending rows cols w' j) → (ψ : Term Numbers → ℕ) (i n : ℕ) → i ≤ r → r < i + n →
      i + n ≤ top → weigh ψ (awaited rows cols w i n) ≡ ψ x + weigh ψ (awaited rows cols w' i n)
  awaited-less w w' r x e top o ψ i zero h k t = absurd (omega arith)
  awaited-less w w' r x e top o ψ i (suc n) h k t = go (ℕ_discrete i r) (awaited-less w w' r x e top o ψ (suc i) n)
    where
      go : Dec (i ≡ r) →
          (suc i ≤ r → r < suc i + n → suc i + n ≤ top → weigh ψ (awaited rows cols w (suc i) n) ≡ ψ x + weigh ψ (awaited rows cols w' (suc i) n)) →
          weigh ψ (pending rows cols w i ++ awaited rows cols w (suc i) n) ≡ ψ x + weigh ψ (pending rows cols w' i ++ awaited rows cols w' (suc i) n)
      go (yes d) rest =
          let here : weigh ψ (pending rows cols w i) ≡ ψ x + weigh ψ (pending rows cols w' i) = ap (λ j. weigh ψ (pending rows cols w j)) d
          ∙ ap (weigh ψ) e ∙ ap (λ j. ψ x + weigh ψ (pending rows cols w' j)) (sym d) in
          let later : weigh ψ (awaited rows cols w (suc i) n) ≡ weigh ψ (awaited rows cols w' (suc i) n) = ap (weigh ψ) (awaited_same rows rows cols w w' (suc i) n (λ j l m. o j (omega arith) (λ f. omega arith))) in
          omega (arith, weigh-append ψ (pending rows cols w i) (awaited rows cols w (suc i) n), weigh-append ψ (pending rows cols w' i) (awaited rows cols w' (suc i) n))
      go (no d) rest =
          let here : weigh ψ (pending rows cols w i) ≡ weigh ψ (pending rows cols w' i) = ap (weigh ψ) (o i (omega arith) d) in
          let later : weigh ψ (awaited rows cols w (suc i) n) ≡ ψ x + weigh ψ (awaited rows cols w' (suc i) n) = rest (omega arith) (omega arith) (omega arith) in
          omega (arith, weigh-append ψ (pending rows cols w i) (awaited rows cols w (suc i) n), weigh-append ψ (pending rows cols w' i) (awaited rows cols w' (suc i) n))

  -- The product in hand

  pub record Hand (w : List ℕ) (k tag : ℕ) : Type 0 where
    pub row : row_of tag < records rows
    pub column : column_of tag < records cols
    pub key : k ≡ word_at rows (row_of tag) + word_at cols (column_of tag) + 1
    pub leaf_key : word_at w (records rows + row_of tag) ≡ k
    pub leaf_tag : tag_at w (records rows + row_of tag) ≡ tag
    pub settled : Settled (records rows) (records rows + row_of tag) w

  pub hand : (w : List ℕ) (at k : ℕ) → 0 < k → 1 ≤ at → at < 2 * records rows → Settled (records rows) at w →
      ((i : ℕ) → i < records rows → Waits rows cols w i) → word_at w at ≡ k → Hand w k (tag_at w at)
  hand w at k pos from within s waiting e = go (tree_leaf (records rows) w at s from within)
    where
      go : Leaf (records rows) w at → Hand w k (tag_at w at)
      go l = product (waiting (l.leaf - records rows) (omega (arith, l.from, l.within))).waits
        where
          place : records rows + (l.leaf - records rows) ≡ l.leaf
          place = omega (arith, l.from)

          product : (word_at w (records rows + (l.leaf - records rows)) ≡ 0) ⊎ Product rows cols w (l.leaf - records rows) → Hand w k (tag_at w at)
          product (inl z) = absurd (omega (arith, z, ap (word_at w) place, l.copy.key, e))
          product (inr p) =
              let tags : tag_at w (records rows + (l.leaf - records rows)) ≡ tag_at w at = ap (tag_at w) place ∙ sym l.copy.tag in
              let keys : word_at w (records rows + (l.leaf - records rows)) ≡ k = ap (word_at w) place ∙ sym l.copy.key ∙ e in
              let r : row_of (tag_at w at) ≡ l.leaf - records rows = ap row_of (sym tags) ∙ p.row in
              let leaf : records rows + row_of (tag_at w at) ≡ l.leaf = ap (λ x. records rows + x) r ∙ place in
              record {
                row = omega (arith, r, l.from, l.within);
                column = subst (λ x. column_of x < records cols) tags p.column;
                key = sym keys ∙ p.key ∙ (λ d. word_at rows (sym r d) + word_at cols (column_of (tags d)) + 1);
                leaf_key = ap (word_at w) leaf ∙ sym l.copy.key ∙ e;
                leaf_tag = ap (tag_at w) leaf ∙ sym l.copy.tag;
                settled =
                    subst (λ x. Settled (records rows) x w) (sym leaf)
                    (record { settled = λ j f b m. s.settled j f b (λ a. m (l.way j a)) });
              }

  unless_positive : (k : ℕ) (f : Poly Numbers) → 0 < k → unless_empty k f ≡ f
  unless_positive zero f h = absurd (omega arith)
  unless_positive (suc k) f h = refl

  -- the term of a row
  abbrev pub row_term : ℕ → Term Numbers
  row_term i = term (word_at rows i) (coef_at rows i)

  -- all products of a row with the columns after one
  abbrev later : ℕ → ℕ → Poly Numbers
  later i column = times (row_term i) (span cols (suc column) (records cols - suc column))

  -- what row i waits for, by its leaf
  pub pending-at : (w : List ℕ) (i tag : ℕ) → tag_at w (records rows + i) ≡ tag → 0 < word_at w (records rows + i) →
      pending rows cols w i ≡ times (row_term i) (span cols (column_of tag) (records cols - column_of tag))
  pending-at w i tag e h =
      unless_positive (word_at w (records rows + i)) _ h
      ∙ ap (λ x. times (row_term i) (span cols (column_of x) (records cols - column_of x))) e

  pub pending_empty : (w : List ℕ) (i : ℕ) → word_at w (records rows + i) ≡ 0 → pending rows cols w i ≡ []
  pending_empty w i e =
      ap (λ x. unless_empty x (times (row_term i) (span cols (column_of (tag_at w (records rows + i))) (records cols - column_of (tag_at w (records rows + i)))))) e

  pub pending-first : (w : List ℕ) (k tag : ℕ) → 0 < k → Hand w k tag →
      pending rows cols w (row_of tag) ≡ term (k - 1) (coef_at rows (row_of tag) * coef_at cols (column_of tag)) ∷ later (row_of tag) (column_of tag)
  pending-first w k tag pos h =
      let c = column_of tag in
      let positive : 0 < word_at w (records rows + row_of tag) = omega (arith, h.leaf_key) in
      let more : records cols - c ≡ suc (records cols - suc c) = omega (arith, h.column) in
      let mon : word_at rows (row_of tag) + word_at cols c ≡ k - 1 = omega (arith, h.key) in
      pending-at w (row_of tag) tag h.leaf_tag positive
      ∙ ap (λ n. times (row_term (row_of tag)) (span cols c n)) more
      ∙ (λ d. record { mon = mon d; num = coef_at rows (row_of tag) * coef_at cols c } ∷ later (row_of tag) c)

  module _ (p : ℕ) (S : Sides rows cols p) (w w' : List ℕ) (k tag e : ℕ) (pos : 0 < k) (h : Hand w k tag) (x : Node)
      (nx : Next cols (word_at rows (row_of tag)) (column_of tag) tag x) (c : Climbed (records rows) (records rows + row_of tag) x.key x.tag k w w' e) where
    -- the next tag has the same row and the next column
    next_row : column_of tag + 1 < records cols → row_of (tag + 1) ≡ row_of tag
    next_row l = omega (arith, S.few.1)

    next_column : column_of tag + 1 < records cols → column_of (tag + 1) ≡ column_of tag + 1
    next_column l = omega (arith, S.few.1)

    pending-next : pending rows cols w' (row_of tag) ≡ later (row_of tag) (column_of tag)
    pending-next = elim nx.next [
      | inl z ↦
          let none : 0 ≡ records cols - suc (column_of tag) = omega (arith, z.0) in
          pending_empty w' (row_of tag) (c.keyed ∙ z.1) ∙ ap (λ n. times (row_term (row_of tag)) (span cols (suc (column_of tag)) n)) none
      | inr z ↦
          let positive : 0 < word_at w' (records rows + row_of tag) = omega (arith, c.keyed, z.1) in
          let column : column_of x.tag ≡ suc (column_of tag) = ap column_of z.2 ∙ next_column z.0 ∙ add-one (column_of tag) in
          pending-at w' (row_of tag) x.tag c.tagged positive ∙ ap (λ n. times (row_term (row_of tag)) (span cols n (records cols - n))) column
    ]

    pub pending-taken : pending rows cols w (row_of tag) ≡ term (k - 1) (coef_at rows (row_of tag) * coef_at cols (column_of tag)) ∷ pending rows cols w' (row_of tag)
    pending-taken =
        pending-first w k tag pos h
        ∙ ap (λ (f : Poly Numbers). term (k - 1) (coef_at rows (row_of tag) * coef_at cols (column_of tag)) ∷ f) (sym pending-next)

    -- the other rows' leaves are as they were
    other_leaf : (j : ℕ) → j < records rows → (j ≡ row_of tag → ⊥) → (word_at w' (records rows + j) ≡ word_at w (records rows + j)) × (tag_at w' (records rows + j) ≡ tag_at w (records rows + j))
    other_leaf j b n = c.others (records rows + j) (omega arith) (omega arith) (λ d. n (omega arith))

    pub pending_other : (j : ℕ) → j < records rows → (j ≡ row_of tag → ⊥) → pending rows cols w j ≡ pending rows cols w' j
    pending_other j b n =
        let o = other_leaf j b n in
        pending_same rows rows cols w w' j o.0 o.1 refl refl

    waits_next : Waits rows cols w' (row_of tag)
    waits_next = record {
      waits =
          elim nx.next [
            | inl z ↦ inl (c.keyed ∙ z.1)
            | inr z ↦
                let t : tag_at w' (records rows + row_of tag) ≡ tag + 1 = c.tagged ∙ z.2 in
                let column : column_of (tag_at w' (records rows + row_of tag)) ≡ column_of tag + 1 = ap column_of t ∙ next_column z.0 in
                inr (record {
                  row = ap row_of t ∙ next_row z.0;
                  column = omega (arith, column, z.0);
                  key = c.keyed ∙ z.1 ∙ ap (λ n. word_at rows (row_of tag) + word_at cols n + 1) (sym column);
                })
          ];
    }

    pub waits_all : ((i : ℕ) → i < records rows → Waits rows cols w i) → (i : ℕ) → i < records rows → Waits rows cols w' i
    waits_all v i b =
        elim (ℕ_discrete i (row_of tag)) [
          | yes d ↦ subst (Waits rows cols w') (sym d) waits_next
          | no n ↦ let o = other_leaf i b n in waits_same rows rows cols w w' i o.0 o.1 refl (v i b)
        ]

    -- where the columns fall, the row's next key is lower
    pub next_lower : ((i : ℕ) → suc i < records cols → word_at cols (suc i) < word_at cols i) → x.key < k
    next_lower falls = elim nx.next [
      | inl z ↦ omega (arith, z.1)
      | inr z ↦ omega (arith, z.1, h.key, falls (column_of tag) (omega (arith, z.0)), ap (word_at cols) (add-one (column_of tag)))
    ]

    pub taken : (ψ : Term Numbers → ℕ) →
        weigh ψ (awaited rows cols w 0 (records rows)) ≡ ψ (term (k - 1) (coef_at rows (row_of tag) * coef_at cols (column_of tag))) + weigh ψ (awaited rows cols w' 0 (records rows))
    taken ψ =
        awaited-less w w' (row_of tag) _ pending-taken (records rows) pending_other ψ 0 (records rows) (omega arith) (omega (arith, h.row)) (omega arith)

  -- The loop: `sum` is what was taken so far of the array w₀, w is the array now, and the record to be taken next is `node`, at `at`.

  pub record Taking (p k : ℕ) (w₀ w : List ℕ) (sum : ℕ) (node : Node) : Type 0 where
    pub at : ℕ
    pub here : node ≡ node_at w at
    pub long : 4 * records rows ≤ length w
    pub as_long : length w ≡ length w₀
    pub from : 1 ≤ at
    pub within : at < 2 * records rows
    pub settled : Settled (records rows) at w
    pub found : (at ≡ 1) ⊎ (word_at w at ≡ k)
    pub waiting : (i : ℕ) → i < records rows → Waits rows cols w i
    pub small : sum < p
    pub sums : Equal p (awaited rows cols w₀ 0 (records rows)) (term (k - 1) sum ∷ awaited rows cols w 0 (records rows))
    pub counts : (m : ℕ) → (m ≡ k - 1 → ⊥) → count m (awaited rows cols w₀ 0 (records rows)) ≡ count m (awaited rows cols w 0 (records rows))
    pub lower : ((i : ℕ) → suc i < records cols → word_at cols (suc i) < word_at cols i) → word_at w₀ 1 ≤ k → (y : ℕ) → records rows ≤ y → y < 2 * records rows → word_at w y ≤ k
    pub empty : (i : ℕ) → i < records rows → word_at w₀ (records rows + i) ≡ 0 → word_at w (records rows + i) ≡ 0

  pub take-starts : (p k : ℕ) (w : List ℕ) (node : Node) → 0 < p → 0 < records rows → Live rows cols w → node ≡ node_at w 1 → Taking p k w w 0 node
  take-starts p k w node pos some l e =
      record {
        at = 1;
        here = e;
        long = l.long;
        as_long = refl;
        from = le_refl 1;
        within = omega arith;
        settled = root_settled (records rows) w 1 l.tree;
        found = inl refl;
        waiting = l.waiting;
        small = pos;
        sums = equal_by (λ φ. same_eq (omega arith));
        counts = λ m n. refl;
        lower = λ falls h y f b. le_trans (tree_greatest (records rows) w l.tree y (omega arith) b) h;
        empty = λ i b z. z;
      }

  -- the record that the loop's test found
  pub taking_hand : (p k : ℕ) (w₀ w : List ℕ) (sum : ℕ) (node : Node) → 0 < k → Taking p k w₀ w sum node → node.key ≡ k → Hand w k node.tag
  taking_hand p k w₀ w sum node pos t e =
      subst (λ (x : Node). Hand w k x.tag) (sym t.here)
      (hand w t.at k pos t.from t.within t.settled t.waiting (ap (λ (x : Node). x.key) (sym t.here) ∙ e))

  pub take-ends : (p k : ℕ) (w₀ w : List ℕ) (sum : ℕ) (node : Node) → 0 < records rows → Taking p k w₀ w sum node → (node.key ≡ k → ⊥) → Taken p rows cols k w₀ w sum
  take-ends p k w₀ w sum node some t n = go t.found
    where
      go : (t.at ≡ 1) ⊎ (word_at w t.at ≡ k) → Taken p rows cols k w₀ w sum
      go (inr e) = absurd (n (ap (λ (x : Node). x.key) t.here ∙ e))
      go (inl e) =
          let s : Settled (records rows) 1 w = subst (λ x. Settled (records rows) x w) e t.settled in
          let l : Leaf (records rows) w 1 = tree_leaf (records rows) w 1 s (le_refl 1) (omega arith) in
          record {
            as_long = t.as_long;
            live = record { long = t.long; tree = settled_root (records rows) w s; waiting = t.waiting };
            small = t.small;
            sums = t.sums;
            counts = t.counts;
            lower =
                λ falls h.
                let most : word_at w l.leaf ≤ k = t.lower falls h l.leaf l.from l.within in
                let root : word_at w 1 ≡ word_at w l.leaf = l.copy.key in
                let other : word_at w 1 ≢ k = λ d. n (ap (λ (x : Node). x.key) t.here ∙ ap (word_at w) e ∙ d) in
                omega arith;
            empty = t.empty;
          }

  pub take-steps : (p k : ℕ) (w₀ w w' : List ℕ) (sum e : ℕ) (node x up : Node) → 0 < p → 0 < k → Sides rows cols p → Taking p k w₀ w sum node →
      node.key ≡ k → let tag = node.tag in Next cols (word_at rows (row_of tag)) (column_of tag) tag x →
      Climbed (records rows) (records rows + row_of tag) x.key x.tag k w w' e → up ≡ node_at w' e →
      Taking p k w₀ w' ((sum + coef_at rows (row_of tag) * coef_at cols (column_of tag)) % p) up
  take-steps p k w₀ w w' sum e node x up pos kpos S t found nx c here =
      record {
        at = e;
        here = here;
        long = omega (arith, t.long, c.as_long);
        as_long = c.as_long ∙ t.as_long;
        from = c.from;
        within = c.within;
        settled = c.settled;
        found = c.found;
        waiting = waits_all p S w w' k tag e kpos h x nx c t.waiting;
        small = mod-lt (sum + product) pos;
        sums = equal_trans t.sums (equal_by sums);
        counts = λ m n. t.counts m n ∙ counts m n;
        lower = λ falls l y f b. elim (ℕ_discrete y (records rows + row_of tag))
            [ yes d ↦ omega (arith, ap (word_at w') d, c.keyed, next_lower p S w w' k tag e kpos h x nx c falls) | no d ↦ omega (arith, (c.others y f b d).0, t.lower falls l y f b) ];
        empty = λ i b z. (c.others (records rows + i) (omega arith) (omega arith) (λ d. omega (arith, t.empty i b z, ap (word_at w) d, h.leaf_key))).0 ∙ t.empty i b z;
      }
    where
      tag : ℕ
      tag = node.tag

      h : Hand w k tag
      h = taking_hand p k w₀ w sum node kpos t found

      product : ℕ
      product = coef_at rows (row_of tag) * coef_at cols (column_of tag)

      before : Poly Numbers
      before = awaited rows cols w 0 (records rows)

      after : Poly Numbers
      after = awaited rows cols w' 0 (records rows)

      gone : (ψ : Term Numbers → ℕ) → weigh ψ before ≡ ψ (term (k - 1) product) + weigh ψ after
      gone = taken p S w w' k tag e kpos h x nx c

      sums : (φ : ℕ → ℕ) → Same p (sum * φ (k - 1) + total φ before) ((sum + product) % p * φ (k - 1) + total φ after)
      sums φ =
          same_trans
          (same_eq (omega (arith, total-weigh φ before, total-weigh φ after, gone (λ u. u.num * φ u.mon))))
          (same_add {a = (sum + product) * φ (k - 1)} (same_mul (same_sym (same_mod (sum + product))) same_refl) same_refl)

      counts : (m : ℕ) → (m ≡ k - 1 → ⊥) → count m before ≡ count m after
      counts m n =
          omega
          (arith, count-weigh m before, count-weigh m after, gone (λ u. only (Numbers.decide u.mon m) 1), apart (k - 1) m (Numbers.decide (k - 1) m) (λ d. n (sym d)))
        where
          apart : (a m : ℕ) (d : Dec (a ≡ m)) → (a ≡ m → ⊥) → only d 1 ≡ 0
          apart a m (yes d) n = absurd (n d)
          apart a m (no d) n = refl
