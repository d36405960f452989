-- The greatest monomial of what remains. What the dividend has at it is the head of poly's `Heads`; what waits in the tree is subtracted.
--
--   remaining_below     all that remains is below a word where no key is greater
--   remaining-none      nothing remains where no key does
--   headed              the dividend's head at the greatest key, less what waits there, is taken out of what remains
use Prim.Native.Nat.{ℕ, ◌+◌, ◌-◌, ◌%◌, ◌<◌, ◌≤◌, max}
use mathlib.Core.Path.{◌≡◌, sym, ◌∙◌, ap, subst}
use mathlib.Core.List.{List, [], ◌∷◌, ◌++◌}
use native.Mathlib.Nat.{pos_of_ne-zero, mod-lt, le-max_left, le-max_right}
use mathlib.Core.Bool.{true}
use native.Mathlib.Decide.{ℕ_discrete}
use native.Mathlib.Omega.{arith}
use Rattle.algebra.specs.Monomials.{Numbers}
use Rattle.algebra.specs.Orders.{Rising}
use Rattle.algebra.specs.Polynomials.{term, Poly, count, negated, Below, Alike}
use Rattle.algebra.proofs.All.{all_append, negated_all}
use Rattle.algebra.proofs.Sorted.{count-append, count-negated, head_count}
use Rattle.poly.specs.Words.{records, word_at, span}
use Rattle.poly.specs.Valid.{Valid}
use Rattle.poly.specs.Keys.{key_at, head_at}
use Rattle.poly.specs.declared.keys.Head.{Head}
use Rattle.poly.proofs.Heads.{max_lower, max_other, span_below, span-done, other_count, HeadTaken, head_taken, head_equal}
use Rattle.tree.specs.Tree.{awaited, Live, Taken}
use Rattle.tree.proofs.Planting.{awaited_below, awaited-none}
use Rattle.tree.proofs.Adding.{root_stands}
use Rattle.heads.specs.Remaining.{remaining, Headed}

module _ (p : ℕ) (f g q w : List ℕ) (i : ℕ) (l : Live q g w) where
  first_most : key_at f i ≤ max (key_at f i) (word_at w 1)
  first_most = le-max_left (key_at f i) (word_at w 1)

  second_most : word_at w 1 ≤ max (key_at f i) (word_at w 1)
  second_most = le-max_right (key_at f i) (word_at w 1)

  pub remaining_below : (m : ℕ) → Valid p f → Valid p g → max (key_at f i) (word_at w 1) ≤ m → Below Rising m (remaining p f g q w i)
  remaining_below m vf vg h =
      let waiting = awaited q g w 0 (records q) in
      all_append {K = Numbers} (λ n. n < m) (span f i (records f - i)) (negated p waiting)
      (span_below f vf.falls i m (omega (arith, first_most)))
      (negated_all {K = Numbers} (λ n. n < m) p waiting (awaited_below q g w l vg.falls m (omega (arith, second_most))))

  pub remaining-none : max (key_at f i) (word_at w 1) ≡ 0 → remaining p f g q w i ≡ []
  remaining-none z =
      let key : key_at f i ≡ 0 = omega (arith, first_most) in
      let root : word_at w 1 ≡ 0 = omega (arith, second_most) in
      λ d. span-done f i key d ++ negated p (awaited-none q g w l root d)

-- a sign hides no monomial
counted : (p x : ℕ) (F L : Poly Numbers) → count {K = Numbers} x (F ++ negated p L) ≡ count {K = Numbers} x F + count {K = Numbers} x L
counted p x F L = omega (arith, count-append {K = Numbers} x F (negated p L), count-negated {K = Numbers} p x L)

module _
    {p : ℕ} (pos : 0 < p) {f g q w w' : List ℕ} (vf : Valid p f) (vg : Valid p g) (l : Live q g w) {i k t : ℕ}
    (within : i ≤ records f) (some : 0 < k) (top : k ≡ max (key_at f i) (word_at w 1)) (began : records q ≡ 0 → word_at w 1 ≡ 0)
    (T : Taken p q g k w w' t) {h : Head} (e : h ≡ head_at f i k)
  where
    F : HeadTaken f i k h
    F = head_taken f vf.falls i k some within (omega (arith, first_most p f g q w i l)) h e

    abbrev waiting : Poly Numbers
    waiting = awaited q g w 0 (records q)

    abbrev waits_on : Poly Numbers
    waits_on = awaited q g w' 0 (records q)

    abbrev left : Poly Numbers
    left = span f i (records f - i)

    abbrev left_on : Poly Numbers
    left_on = span f h.next (records f - h.next)

    abbrev c : ℕ
    c = (h.coef + (p - t) % p) % p

    -- the monomial stands in what remains: in the dividend, else at the root
    stands : 0 < count (k - 1) (remaining p f g q w i)
    stands = go (ℕ_discrete (key_at f i) k)
      where
        go : Dec (key_at f i ≡ k) → 0 < count (k - 1) (remaining p f g q w i)
        go (yes d) = omega (arith, counted p (k - 1) left waiting, F.stands d)
        go (no n) =
            let lower : key_at f i < max (key_at f i) (word_at w 1) = omega (arith, first_most p f g q w i l) in
            let root : word_at w 1 ≡ k = max_other (key_at f i) (word_at w 1) lower ∙ sym top in
            omega (
              arith,
              counted p (k - 1) left waiting,
              ap (λ y. count {K = Numbers} (y - 1) waiting) root,
              root_stands q g w l (pos_of_ne-zero (λ z. omega (arith, began z))) (omega arith),
            )

    others : (x : ℕ) → (x ≡ k - 1 → ⊥) → count x (remaining p f g q w i) ≡ count x (term (k - 1) c ∷ remaining p f g q w' h.next)
    others x n =
        omega (
          arith,
          counted p x left waiting,
          counted p x left_on waits_on,
          F.counts x n,
          T.counts x n,
          other_count (k - 1) x (Numbers.decide (k - 1) x) n,
        )

    alike : Alike p (remaining p f g q w i) (term (k - 1) c ∷ remaining p f g q w' h.next)
    alike =
        let on = remaining p f g q w' h.next in
        let here : 0 < count (k - 1) (term (k - 1) c ∷ on) = head_count (term {K = Numbers} (k - 1) c) on in
        record {
          equal = head_equal p pos true left left_on waiting waits_on (k - 1) h.coef t F.totals T.sums T.small;
          there =
              λ x m.
              elim (ℕ_discrete x (k - 1)) [
                | yes d ↦ subst (λ y. 0 < count y (term {K = Numbers} (k - 1) c ∷ on)) (sym d) here
                | no n ↦ omega (arith, others x n)
              ];
          back =
              λ x m.
              elim (ℕ_discrete x (k - 1)) [
                | yes d ↦ subst (λ y. 0 < count {K = Numbers} y (remaining p f g q w i)) (sym d) stands
                | no n ↦ omega (arith, others x n)
              ];
        }

    pub headed : (records q ≡ 0 → word_at w' 1 ≡ 0) → (n : ℕ) → n ≡ c → Headed p f g q w i k w' h.next n
    headed idle n d =
        record {
          as_long = T.as_long;
          live = T.live;
          small = omega (arith, mod-lt (h.coef + (p - t) % p) pos);
          within = F.within;
          empty = T.empty;
          idle = idle;
          alike = subst (λ x. Alike p (remaining p f g q w i) (term (k - 1) x ∷ remaining p f g q w' h.next)) (sym d) alike;
          lower = max_lower F.lower (T.lower vg.falls (omega (arith, second_most p f g q w i l)));
        }
