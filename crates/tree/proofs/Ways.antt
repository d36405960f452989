-- The way from a record to the root, and trees that hold but on such a way.
--
--   half_steps                   to halve once more is to halve, and then the rest of the way
--   above_parent, above_more, above_cases   what is above a record: the record above it, and what is above that
--   above_less                   it has a lower place
--   beside, beside_half          the other child of the record above
--   node_written                 a record that was written
--   greater_holds                a record that is written as the greater of its children holds
--   settled_leaf                 a leaf may be written
--   settled_up                   one step of a climb: the record above becomes the greater child
--   settled_beside               two children of one record have the same way
--   settled_root, root_settled   at the root the whole tree holds
--   tree_greatest, leaf_greatest no record has a greater key than the root, and so no leaf
--   Climbing, climb-starts, climb-steps, climb-ends   a climb, from the leaf written to its end
--   tree_leaf                    a record of a tree is a copy of a leaf below it
use Prim.Native.Nat.{ℕ, zero, suc, ◌+◌, ◌*◌, ◌/◌, ◌%◌, ◌^◌, ◌<◌, ◌≤◌}
use mathlib.Core.Path.{◌≡◌, refl, sym, ◌∙◌, ap, subst}
use mathlib.Core.List.{List}
use mathlib.Core.Logic.{◌⊎◌, inl, inr}
use native.Mathlib.Nat.{div-div-eq-div-mul, pow-succ', div-le_self, le_refl}
use native.Mathlib.Decide.{ℕ_discrete, dec_lt}
use native.Mathlib.Omega.{arith}
use lib.Bits.{bit_xor, xor_add_and, and_mask}
use lib.ListN.{length}
use Rattle.poly.specs.Words.{word_at}
use Rattle.tree.specs.Tree.{tag_at, node_at, written, Copy, Holds, Tree, Above, Settled, Greater, Climbed}
use Rattle.tree.specs.declared.Node.{Node}
use Rattle.poly.proofs.Records.{put-length, put-word, put-coef, put_other}

pub half_steps : (i m : ℕ) → i / 2 ^ suc m ≡ i / 2 / 2 ^ m
half_steps i m = ap (λ (x : ℕ). i / x) (pow-succ' 2 m) ∙ sym (div-div-eq-div-mul i 2 (2 ^ m))

pub above_parent : (i : ℕ) → Above i (i / 2)
above_parent i = record { steps = 0; place = refl }

pub above_more : (i : ℕ) {j : ℕ} → Above (i / 2) j → Above i j
above_more i a = record { steps = suc a.steps; place = a.place ∙ sym (half_steps i (suc a.steps)) }

pub above_cases : (i : ℕ) {j : ℕ} → Above i j → (j ≡ i / 2) ⊎ Above (i / 2) j
above_cases i {j} a = go a.steps a.place
  where
    go : (m : ℕ) → j ≡ i / 2 ^ suc m → (j ≡ i / 2) ⊎ Above (i / 2) j
    go zero e = inl e
    go (suc m) e = inr (record { steps = m; place = e ∙ half_steps i (suc m) })

pub above_less : (i : ℕ) {j : ℕ} → 1 ≤ i → Above i j → j < i
above_less i h a =
    let k : i / 2 / 2 ^ a.steps ≤ i / 2 = div-le_self (i / 2) (2 ^ a.steps) in
    omega (arith, a.place, half_steps i a.steps)

abbrev pub beside : ℕ → ℕ
beside i = bit_xor i 1

pub beside_place : (i : ℕ) → beside i + i % 2 * 2 ≡ i + 1
beside_place i = ap (λ (x : ℕ). beside i + x * 2) (sym (and_mask i 1)) ∙ xor_add_and i 1

pub beside_half : (i : ℕ) → beside i / 2 ≡ i / 2
beside_half i = omega (arith, beside_place i)

pub beside_from : (i : ℕ) → 1 < i → 1 ≤ beside i
beside_from i h = omega (arith, beside_place i)

module _ (w : List ℕ) (j : ℕ) (r : Node) where
  pub node_written : 2 * j + 1 < length w → node_at (written r j w) j ≡ r
  node_written h = λ d. record { key = put-word w j r.key r.tag h d; tag = put-coef w j r.key r.tag h d }

  abbrev other : (y : ℕ) → (y ≡ j → ⊥) → (word_at (written r j w) y ≡ word_at w y) × (tag_at (written r j w) y ≡ tag_at w y)
  other = put_other w j r.key r.tag

  pub greater_holds : 1 ≤ j → 2 * j + 1 < length w → Greater (node_at w (2 * j)) (node_at w (2 * j + 1)) r → Holds (written r j w) j
  greater_holds from h g =
      let key : word_at (written r j w) j ≡ r.key = put-word w j r.key r.tag h in
      record {
        first = omega (arith, (other (2 * j) (λ e. omega arith)).0, g.first);
        second = omega (arith, (other (2 * j + 1) (λ e. omega arith)).0, g.second);
        copies = elim g.copies [ inl e ↦ inl (copy (2 * j) (omega arith) e) | inr e ↦ inr (copy (2 * j + 1) (omega arith) e) ];
      }
    where
      copy : (y : ℕ) → j < y → r ≡ node_at w y → Copy (written r j w) j y
      copy y l e =
          let o = other y (λ d. omega arith) in
          record {
            key = put-word w j r.key r.tag h ∙ ap (λ (x : Node). x.key) e ∙ sym o.0;
            tag = put-coef w j r.key r.tag h ∙ ap (λ (x : Node). x.tag) e ∙ sym o.1;
          }

  -- a record that holds still holds where neither it nor a child of it was written
  pub holds_other : (i : ℕ) → (i ≡ j → ⊥) → (i ≡ j / 2 → ⊥) → Holds w i → Holds (written r j w) i
  holds_other i n m h =
      let here = other i n in
      let one = other (2 * i) (λ e. m (omega arith)) in
      let two = other (2 * i + 1) (λ e. m (omega arith)) in
      record {
        first = omega (arith, h.first, here.0, one.0);
        second = omega (arith, h.second, here.0, two.0);
        copies =
            elim h.copies [
              | inl c ↦ inl (record { key = here.0 ∙ c.key ∙ sym one.0; tag = here.1 ∙ c.tag ∙ sym one.1 })
              | inr c ↦ inr (record { key = here.0 ∙ c.key ∙ sym two.0; tag = here.1 ∙ c.tag ∙ sym two.1 })
            ];
      }

module _ (n : ℕ) where
  pub settled_leaf : (w : List ℕ) (x : ℕ) (r : Node) → n ≤ x → Settled n x w → Settled n x (written r x w)
  settled_leaf w x r h s =
      record {
        settled =
            λ j l k m. holds_other w x r j (λ e. omega arith)
            (λ e. m (subst (Above x) (sym e) (above_parent x)))
            (s.settled j l k m);
      }

  pub settled_root : (w : List ℕ) → Settled n 1 w → Tree n w
  settled_root w s = record { holds = λ j l k. s.settled j l k (λ a. let h : j < 1 = above_less 1 (le_refl 1) a in omega arith) }

  pub root_settled : (w : List ℕ) (i : ℕ) → Tree n w → Settled n i w
  root_settled w i t = record { settled = λ j l k m. t.holds j l k }

  pub settled_beside : (w : List ℕ) (i : ℕ) → Settled n i w → Settled n (beside i) w
  settled_beside w i s =
      record {
        settled =
            λ j l k m. s.settled j l k
            (λ a. m (go j (above_cases i a)));
      }
    where
      go : (j : ℕ) → (j ≡ i / 2) ⊎ Above (i / 2) j → Above (beside i) j
      go j (inl e) = subst (Above (beside i)) (beside_half i ∙ sym e) (above_parent (beside i))
      go j (inr a) = above_more (beside i) (subst (λ x. Above x j) (sym (beside_half i)) a)

  -- the children of the record above i are i and the record beside it
  children : (i : ℕ) → ((i ≡ 2 * (i / 2)) × (beside i ≡ 2 * (i / 2) + 1)) ⊎ ((beside i ≡ 2 * (i / 2)) × (i ≡ 2 * (i / 2) + 1))
  children i = elim (ℕ_discrete (i % 2) 0) [ yes e ↦ inl (omega arith, omega (arith, beside_place i)) | no k ↦ inr (omega (arith, beside_place i), omega arith) ]

  -- the greater of a record and the one beside it is the greater of their parent's children
  siblings : (w : List ℕ) (i : ℕ) (r : Node) → Greater (node_at w i) (node_at w (beside i)) r → Greater (node_at w (2 * (i / 2))) (node_at w (2 * (i / 2) + 1)) r
  siblings w i r g =
      elim (children i) [
        | inl e ↦ subst (λ (x : ℕ × ℕ). Greater (node_at w x.0) (node_at w x.1) r) (λ d. (e.0 d, e.1 d)) g
        | inr e ↦ subst (λ (x : ℕ × ℕ). Greater (node_at w x.0) (node_at w x.1) r) (λ d. (e.0 d, e.1 d))
            (record { first = g.second; second = g.first; copies = elim g.copies [ inl c ↦ inr c | inr c ↦ inl c ] })
      ]

  pub settled_up : (w : List ℕ) (i : ℕ) (r : Node) → 1 < i → 2 * (i / 2) + 1 < length w → Greater (node_at w i) (node_at w (beside i)) r → Settled n i w →
      Settled n (i / 2) (written r (i / 2) w)
  settled_up w i r h l g s = record { settled = λ j from below m. go j from below m (ℕ_discrete j (i / 2)) }
    where
      go : (j : ℕ) → 1 ≤ j → j < n → (Above (i / 2) j → ⊥) → Dec (j ≡ i / 2) → Holds (written r (i / 2) w) j
      go j from below m (yes e) = subst (Holds (written r (i / 2) w)) (sym e) (greater_holds w (i / 2) r (omega arith) l (siblings w i r g))
      go j from below m (no k) =
          holds_other w (i / 2) r j k (λ e. m (subst (Above (i / 2)) (sym e) (above_parent (i / 2))))
          (s.settled j from below (λ c. elim (above_cases i c) [ inl e ↦ k e | inr d ↦ m d ]))

  -- no record has a greater key than the root
  greatest : (w : List ℕ) → Tree n w → (m x : ℕ) → x ≤ m → 1 ≤ x → x < 2 * n → word_at w x ≤ word_at w 1
  greatest w t zero x l h k = absurd (omega arith)
  greatest w t (suc m) x l h k = go (dec_lt 1 x) (greatest w t m (x / 2))
    where
      go : Dec (1 < x) → (x / 2 ≤ m → 1 ≤ x / 2 → x / 2 < 2 * n → word_at w (x / 2) ≤ word_at w 1) → word_at w x ≤ word_at w 1
      go (no g) rest = let e : x ≡ 1 = omega arith in subst (λ y. word_at w y ≤ word_at w 1) (sym e) (le_refl (word_at w 1))
      go (yes g) rest =
          let up : word_at w (x / 2) ≤ word_at w 1 = rest (omega arith) (omega arith) (omega arith) in
          let one = t.holds (x / 2) (omega arith) (omega arith) in
          elim (children x) [ inl e ↦ omega (arith, ap (word_at w) e.0, one.first) | inr e ↦ omega (arith, ap (word_at w) e.1, one.second) ]

  pub tree_greatest : (w : List ℕ) → Tree n w → (x : ℕ) → 1 ≤ x → x < 2 * n → word_at w x ≤ word_at w 1
  tree_greatest w t x h k = greatest w t x x (le_refl x) h k

  pub leaf_greatest : (w : List ℕ) → Tree n w → (i : ℕ) → i < n → word_at w (n + i) ≤ word_at w 1
  leaf_greatest w t i h = tree_greatest w t (n + i) (omega arith) (omega arith)

  pub record Leaf (w : List ℕ) (e : ℕ) : Type 0 where
    pub leaf : ℕ
    pub from : n ≤ leaf
    pub within : leaf < 2 * n
    pub copy : Copy w e leaf
    pub way : (j : ℕ) → Above e j → Above leaf j

  below_leaf : (w : List ℕ) (e : ℕ) → Settled n e w → (m x : ℕ) → 2 * n ≤ m + x → e ≤ x → 1 ≤ e → x < 2 * n → Leaf w x
  below_leaf w e s zero x l h f k = absurd (omega arith)
  below_leaf w e s (suc m) x l h f k = go (dec_lt x n) (below_leaf w e s m)
    where
      under : (c : ℕ) → c / 2 ≡ x → Copy w x c → Leaf w c → Leaf w x
      under c d y r =
          record {
            leaf = r.leaf;
            from = r.from;
            within = r.within;
            copy = record { key = y.key ∙ r.copy.key; tag = y.tag ∙ r.copy.tag };
            way = λ j a. r.way j (above_more c (subst (λ z. Above z j) (sym d) a));
          }

      go : Dec (x < n) → ((c : ℕ) → 2 * n ≤ m + c → e ≤ c → 1 ≤ e → c < 2 * n → Leaf w c) → Leaf w x
      go (no g) rest = record { leaf = x; from = omega arith; within = k; copy = record { key = refl; tag = refl }; way = λ j a. a }
      go (yes g) rest =
          elim (s.settled x (omega arith) g (λ a. let z : x < e = above_less e f a in omega arith)).copies [
            | inl y ↦ under (2 * x) (omega arith) y (rest (2 * x) (omega arith) (omega arith) f (omega arith))
            | inr y ↦ under (2 * x + 1) (omega arith) y (rest (2 * x + 1) (omega arith) (omega arith) f (omega arith))
          ]

  pub tree_leaf : (w : List ℕ) (e : ℕ) → Settled n e w → 1 ≤ e → e < 2 * n → Leaf w e
  tree_leaf w e s h k = below_leaf w e s (2 * n) e (omega arith) (le_refl e) h k

  pub beside_within : (i : ℕ) → i < 2 * n → beside i < 2 * n
  beside_within i h = omega (arith, beside_place i)

  -- a climb that has come to record i, which is r; w₀ is the array with the leaf written
  pub record Climbing (w₀ w : List ℕ) (i : ℕ) (r : Node) : Type 0 where
    pub long : 4 * n ≤ length w
    pub as_long : length w ≡ length w₀
    pub from : 1 ≤ i
    pub within : i < 2 * n
    pub here : r ≡ node_at w i
    pub settled : Settled n i w
    pub leaves : (y : ℕ) → n ≤ y → y < 2 * n → (word_at w y ≡ word_at w₀ y) × (tag_at w y ≡ tag_at w₀ y)

  pub climb-starts : (w : List ℕ) (x : ℕ) (r : Node) → n ≤ x → x < 2 * n → 1 ≤ x → 4 * n ≤ length w → Settled n x w → Climbing (written r x w) (written r x w) x r
  climb-starts w x r h k f l s =
      record {
        long = omega (arith, put-length w x r.key r.tag);
        as_long = refl;
        from = f;
        within = k;
        here = sym (node_written w x r (omega arith));
        settled = settled_leaf w x r h s;
        leaves = λ y g m. (refl, refl);
      }

  pub climb-steps : (w₀ w w' : List ℕ) (i : ℕ) (best other up : Node) → Climbing w₀ w i best → 1 < i → other ≡ node_at w (beside i) → Greater best other up →
      w' ≡ written up (i / 2) w → Climbing w₀ w' (i / 2) up
  climb-steps w₀ w w' i best other up c h e g made =
      let l : 2 * (i / 2) + 1 < length w = omega (arith, c.long, c.within) in
      subst (λ v. Climbing w₀ v (i / 2) up) (sym made)
      (record {
        long = omega (arith, put-length w (i / 2) up.key up.tag, c.long);
        as_long = put-length w (i / 2) up.key up.tag ∙ c.as_long;
        from = omega arith;
        within = omega (arith, c.within);
        here = sym (node_written w (i / 2) up l);
        settled = settled_up w i up h l (subst (λ (x : Node × Node). Greater x.0 x.1 up) (λ d. (c.here d, e d)) g) c.settled;
        leaves =
            λ y f k.
            let o = put_other w (i / 2) up.key up.tag y (λ d. omega (arith, c.within)) in
            let p = c.leaves y f k in
            (o.0 ∙ p.0, o.1 ∙ p.1);
      })

  pub climb-ends : (w w₀ w' : List ℕ) (x : ℕ) (r : Node) (k e i : ℕ) (best : Node) → n ≤ x → x < 2 * n → 4 * n ≤ length w → w₀ ≡ written r x w →
      Climbing w₀ w' i best → 1 ≤ e → e < 2 * n → Settled n e w' → (e ≡ 1) ⊎ (word_at w' e ≡ k) → Climbed n x r.key r.tag k w w' e
  climb-ends w w₀ w' x r k e i best h l m made t from within s found =
      let c : Climbing (written r x w) w' i best = subst (λ v. Climbing v w' i best) made t in
      record {
        as_long = c.as_long ∙ put-length w x r.key r.tag;
        from = from;
        within = within;
        settled = s;
        found = found;
        keyed = (c.leaves x h l).0 ∙ put-word w x r.key r.tag (omega arith);
        tagged = (c.leaves x h l).1 ∙ put-coef w x r.key r.tag (omega arith);
        others =
            λ y f g d.
            let p = c.leaves y f g in
            let o = put_other w x r.key r.tag y d in
            (p.0 ∙ o.0, p.1 ∙ o.1);
      }
