-- Merging two inputs, one monomial a turn.
--
--   some_key                      where a record is left there is a key
--   signed_small                  a signed coefficient is below p
--   greatest_left                 what two heads at the greatest key are together
--   front_small                   the coefficient of a record in front is below p
--   front_some                    where a record is left, equal keys are those of two records
--   greatest_both, greatest_one   what two records in front are together: of one key, and of two
--   Merged, merge-starts, merge_skips, merge_writes   the loop: what is written, and what is unmerged, is the normal form
--   merge_full, merge-done        its two ways out: a term is due and the room is full; nothing is unmerged
use Prim.Native.Nat.{ℕ, ◌+◌, ◌-◌, ◌%◌, ◌<◌, ◌≤◌, max}
use mathlib.Core.Path.{◌≡◌, refl, sym, ◌∙◌, ap, subst}
use mathlib.Core.Bool.{Bool, true, false}
use mathlib.Core.List.{List, [], ◌∷◌, ◌++◌}
use lib.Dec.{ltb}
use Rattle.std.specs.Prelude.{not}
use Rattle.std.specs.Int.{from_bool}
use native.Mathlib.Nat.{mod-lt, mod_self, mod-eq_of_lt, le-max_left, le-max_right, max-eq_left, max-eq_right}
use native.Mathlib.Decide.{ℕ_discrete, dec_lt}
use native.Mathlib.Omega.{arith}
use borrow.Author.Tests.{ltb-true, ltb-false, lt-ltb, le-ltb, eq-eqb, ne_eqb}
use Rattle.algebra.specs.Residues.{pick}
use Rattle.algebra.specs.Monomials.{Numbers}
use Rattle.algebra.specs.Orders.{Rising}
use Rattle.algebra.specs.Polynomials.{term, Poly, Equal, signed, signed_coef, Below}
use Rattle.algebra.proofs.All.{all_append, signed_all}
use Rattle.algebra.proofs.Residues.{same_eq}
use Rattle.algebra.proofs.Totals.{equal_by}
use Rattle.poly.specs.Words.{records, coef_at, span}
use Rattle.poly.specs.Valid.{Valid}
use Rattle.poly.specs.Keys.{key_at}
use Rattle.poly.specs.declared.keys.Head.{Head}
use Rattle.poly.proofs.Records.{put}
use Rattle.poly.proofs.Heads.{max_other, key_here, key_within, HeadTaken, span_below, head_equal, head_taken}
use Rattle.calls.specs.Endings.{Filled}
use Rattle.calls.proofs.Filling.{Step, Filling, fill-starts, fill_skips, fill_writes, fill_full, fill-ends}
use Rattle.merging.specs.Merging.{unmerged, front_at, Greatest}
use Rattle.merging.specs.declared.Front.{Front}
use Rattle.merging.specs.declared.Lead.{Lead}

-- What is greatest

-- where a record is left of one of two inputs there is a key
some_key : (a b : List ℕ) (i j : ℕ) → i + j < records a + records b → 0 < max (key_at a i) (key_at b j)
some_key a b i j h = go (dec_lt i (records a))
  where
    go : Dec (i < records a) → 0 < max (key_at a i) (key_at b j)
    go (yes l) = omega (arith, key_here a i l, le-max_left (key_at a i) (key_at b j))
    go (no l) = omega (arith, key_here b j (omega arith), le-max_right (key_at a i) (key_at b j))

signed_small : (p : ℕ) (minus : Bool) (c : ℕ) → c < p → signed_coef p minus c < p
signed_small p true c h = mod-lt (p - c) (omega arith)
signed_small p false c h = h

module _ (p : ℕ) (minus : Bool) (a b : List ℕ) (i j k : ℕ) (pos : 0 < p) (v : Valid p a) (w : Valid p b)
    (top : k ≡ max (key_at a i) (key_at b j)) (some : 0 < k) (x y : Head) (X : HeadTaken a i k x) (Y : HeadTaken b j k y) where
  -- one of the two places moves
  moves : i + j < x.next + y.next
  moves = go (ℕ_discrete (key_at a i) k)
    where
      go : Dec (key_at a i ≡ k) → i + j < x.next + y.next
      go (yes e) = omega (arith, X.moved e, Y.onward)
      go (no n) =
          let lower : key_at a i < max (key_at a i) (key_at b j) = omega (arith, le-max_left (key_at a i) (key_at b j)) in
          omega (arith, X.onward, Y.moved (max_other (key_at a i) (key_at b j) lower ∙ sym top))

  -- what is left of an input lies below the word of k
  below : (s : List ℕ) → Valid p s → (n : ℕ) → key_at s n < k → Below Rising (k - 1) (span s n (records s - n))
  below s u n h = span_below s u.falls n (k - 1) (omega arith)

  pub greatest_left : (c d : ℕ) → d ≡ signed_coef p minus y.coef → c ≡ (x.coef + d) % p →
      Greatest p minus a b i j (record { word = k - 1; coef = c; first = x.next; second = y.next })
  greatest_left c d ed ec =
      let A = span a i (records a - i) in
      let B = span b j (records b - j) in
      let A' = span a x.next (records a - x.next) in
      let B' = span b y.next (records b - y.next) in
      let small : y.coef < p = Y.coefs p pos (λ n h. (w.coefs n h).1) in
      let coef : c ≡ (x.coef + signed_coef p minus y.coef) % p = ec ∙ ap (λ (n : ℕ). (x.coef + n) % p) ed in
      record {
        onward = moves;
        first_within = X.within;
        second_within = Y.within;
        small = subst (λ n. n < p) (sym ec) (mod-lt (x.coef + d) pos);
        sums =
            subst (λ n. Equal p (A ++ signed p minus B) (term (k - 1) n ∷ (A' ++ signed p minus B'))) (sym coef)
            (head_equal p pos minus A A' B B' (k - 1) x.coef y.coef X.totals (equal_by (λ φ. same_eq (Y.totals φ))) small);
        lower =
            all_append {K = Numbers} (λ n. n < k - 1) A' (signed p minus B') (below a v x.next X.lower)
            (signed_all {K = Numbers} (λ n. n < k - 1) p minus B' (below b w y.next Y.lower));
      }

-- What is greatest of two records in front

signed-zero : (p : ℕ) (minus : Bool) → 0 ≡ signed_coef p minus 0
signed-zero p true = sym (ap (λ n. n % p) (omega arith) ∙ mod_self p)
signed-zero p false = refl

module _ (p : ℕ) (s : List ℕ) (i : ℕ) (v : Valid p s) (x : Front) (e : x ≡ front_at s i) where
  front-key : x.key ≡ key_at s i
  front-key = ap (λ r. r.key) e

  front-coef : (t : Bool) → ltb i (records s) ≡ t → x.coef ≡ pick t (coef_at s i) 0
  front-coef t h = ap (λ r. r.coef) e ∙ ap (λ b. pick b (coef_at s i) 0) h

  front_small : 0 < p → x.coef < p
  front_small pos =
      elim (dec_lt i (records s)) [
        | yes h ↦ subst (λ n. n < p) (sym (front-coef true (lt-ltb i (records s) h))) (v.coefs i h).1
        | no h ↦ subst (λ n. n < p) (sym (front-coef false (le-ltb i (records s) (omega arith)))) pos
      ]

  module _ (k : ℕ) (some : 0 < k) (within : i ≤ records s) where
    abbrev either : Bool → Head
    either b = pick b (record { coef = coef_at s i; next = i + 1 }) (record { coef = 0; next = i })

    -- a record in front with the greatest key is the head there, and one with a lesser key waits
    front-taken : x.key ≡ k → HeadTaken s i k (record { coef = x.coef; next = i + 1 })
    front-taken h =
        let key : key_at s i ≡ k = sym front-key ∙ h in
        let here : i < records s = key_within s i (omega arith) in
        let coef : x.coef ≡ coef_at s i = front-coef true (lt-ltb i (records s) here) in
        head_taken s v.falls i k some within (omega arith) _ ((λ d. record { coef = coef d; next = i + 1 }) ∙ sym (ap either (eq-eqb (key_at s i) k key)))

    front_waits : x.key < k → HeadTaken s i k (record { coef = 0; next = i })
    front_waits h =
        let lower : key_at s i < k = omega (arith, front-key) in
        head_taken s v.falls i k some within (omega arith) _ (sym (ap either (ne_eqb (key_at s i) k (λ z. omega arith))))

module _ (a b : List ℕ) (i j : ℕ) (x y : Front) (ex : x ≡ front_at a i) (ey : y ≡ front_at b j) where
  abbrev top : ℕ
  top = max x.key y.key

  abbrev ahead : Bool
  ahead = ltb y.key x.key

  tops : top ≡ max (key_at a i) (key_at b j)
  tops = λ z. max (ex z).key (ey z).key

  -- where a record is left, equal keys are those of two records
  pub front_some : i + j < records a + records b → x.key ≡ y.key → 0 < x.key
  front_some h same =
      let equal : top ≡ x.key = max-eq_left (omega arith) in
      omega (arith, tops, some_key a b i j h)

  module _ (p : ℕ) (minus : Bool) (pos : 0 < p) (v : Valid p a) (w : Valid p b) (first : i ≤ records a) (second : j ≤ records b)
      (d : ℕ) (ed : d ≡ signed_coef p minus y.coef) where
    -- of one key: both are taken
    pub greatest_both : 0 < x.key → x.key ≡ y.key → (c : ℕ) → c ≡ (x.coef + d) % p →
        Greatest p minus a b i j (record { word = x.key - 1; coef = c; first = i + 1; second = j + 1 })
    greatest_both some same c ec =
        greatest_left p minus a b i j x.key pos v w (sym (max-eq_left (omega arith)) ∙ tops) some _ _
        (front-taken p a i v x ex x.key some first refl) (front-taken p b j w y ey x.key some second (sym same)) c d ed ec

    -- of two keys: the greater is taken
    taken : (x.key ≡ y.key → ⊥) → (t : Bool) → ahead ≡ t →
        Greatest p minus a b i j (record { word = top - 1; coef = pick t x.coef d; first = i + from_bool t; second = j + from_bool (not t) })
    taken differ true h =
        let less : y.key < x.key = ltb-true y.key x.key h in
        let here : x.key ≡ top = sym (max-eq_left (omega arith)) in
        let some : 0 < top = omega arith in
        subst (λ n. Greatest p minus a b i j (record { word = top - 1; coef = x.coef; first = i + 1; second = n })) (omega arith)
        (greatest_left p minus a b i j top pos v w tops some _ _
        (front-taken p a i v x ex top some first here) (front_waits p b j w y ey top some second (omega arith))
        x.coef 0 (signed-zero p minus) (sym (ap (λ n. n % p) (omega arith) ∙ mod-eq_of_lt (front_small p a i v x ex pos))))
    taken differ false h =
        let less : x.key < y.key = omega (arith, differ, ltb-false y.key x.key h) in
        let here : y.key ≡ top = sym (max-eq_right (omega arith)) in
        let some : 0 < top = omega arith in
        let small : d < p = subst (λ n. n < p) (sym ed) (signed_small p minus y.coef (front_small p b j w y ey pos)) in
        subst (λ n. Greatest p minus a b i j (record { word = top - 1; coef = d; first = n; second = j + 1 })) (omega arith)
        (greatest_left p minus a b i j top pos v w tops some _ _
        (front_waits p a i v x ex top some first (omega arith)) (front-taken p b j w y ey top some second here)
        d d ed (sym (ap (λ n. n % p) (omega arith) ∙ mod-eq_of_lt small)))

    pub greatest_one : (x.key ≡ y.key → ⊥) → (k c m n : ℕ) → k ≡ max x.key y.key →
        let t = ltb y.key x.key in c ≡ pick t x.coef d → m ≡ from_bool t → n ≡ from_bool (not t) →
        Greatest p minus a b i j (record { word = k - 1; coef = c; first = i + m; second = j + n })
    greatest_one differ k c m n ek ec em en =
        subst (Greatest p minus a b i j) (λ z. record { word = sym ek z - 1; coef = sym ec z; first = i + sym em z; second = j + sym en z })
        (taken differ ahead refl)

-- The loop

-- i and j are the places in the inputs, n terms are written
pub record Merged (p : ℕ) (minus : Bool) (a b room₀ room : List ℕ) (i j n : ℕ) : Type 0 where
  pub first_within : i ≤ records a
  pub second_within : j ≤ records b
  pub filling : Filling p (unmerged p minus a b 0 0) (unmerged p minus a b i j) room₀ room n

module _ (p : ℕ) (minus : Bool) (a b room₀ : List ℕ) (pos : 0 < p) where
  abbrev whole : Poly Numbers
  whole = unmerged p minus a b 0 0

  pub merge-starts : Merged p minus a b room₀ room₀ 0 0 0
  merge-starts = record { first_within = omega arith; second_within = omega arith; filling = fill-starts p pos whole room₀ }

  module _ (room : List ℕ) (i j n : ℕ) (r : Lead) (m : Merged p minus a b room₀ room i j n) (g : Greatest p minus a b i j r) where
    abbrev later : Poly Numbers
    later = unmerged p minus a b r.first r.second

    step : Step p (unmerged p minus a b i j) r.word r.coef later
    step = record { small = g.small; sums = g.sums; lower = g.lower }

    onward : (room' : List ℕ) (n' : ℕ) → Filling p whole later room₀ room' n' → Merged p minus a b room₀ room' r.first r.second n'
    onward room' n' f = record { first_within = g.first_within; second_within = g.second_within; filling = f }

    pub merge_skips : r.coef ≡ 0 → Merged p minus a b room₀ room r.first r.second n
    merge_skips z = onward room n (fill_skips p pos whole room₀ _ room n r.word r.coef later m.filling step z)

    pub merge_writes : (room' : List ℕ) → room' ≡ put room n r.word r.coef → (r.coef ≡ 0 → ⊥) → n < records room →
        Merged p minus a b room₀ room' r.first r.second (n + 1)
    merge_writes room' e z h =
        onward room' (n + 1) (fill_writes p pos whole room₀ _ room n r.word r.coef later m.filling step room' e z h)

    pub merge_full : (r.coef ≡ 0 → ⊥) → n ≡ records room → Filled p whole room₀ room (n + 1)
    merge_full z h = fill_full p pos whole room₀ _ room n r.word r.coef later m.filling step z h

  pub merge-done : (room : List ℕ) (i j n : ℕ) → Merged p minus a b room₀ room i j n → records a + records b ≤ i + j → Filled p whole room₀ room n
  merge-done room i j n m h =
      let none-a : records a - i ≡ 0 = omega (arith, m.second_within) in
      let none-b : records b - j ≡ 0 = omega (arith, m.first_within) in
      fill-ends p pos whole room₀ (unmerged p minus a b i j) room n m.filling ((λ d. span a i (none-a d) ++ signed p minus (span b j (none-b d))) ∙ none minus)
    where
      none : (minus : Bool) → signed {K = Numbers} p minus [] ≡ []
      none true = refl
      none false = refl
