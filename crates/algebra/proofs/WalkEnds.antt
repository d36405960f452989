-- How walks end, and what they write on the way.
--
--   walk-done             a walk that replies 0 leaves nothing
--   Stop, walk-stopped    a walk that a judge stopped: at which term, and why
--   walk_passed           every quotient term that is written passed its judge
--   walk_no_remainder     a walk whose remainder judge lets nothing pass writes no remainder
--   walk_met              every remainder term that is written has what all monomials met have
--   walk_finishes         n steps are enough where every monomial met has a height below n, and a lower one less
use Prim.Native.Nat.{ℕ, suc, ◌+◌, ◌<◌}
use mathlib.Core.Path.{◌≡◌, refl, sym, ◌∙◌, subst}
use mathlib.Core.List.{[], ◌∷◌, ◌++◌}
use mathlib.Core.Logic.{◌⊎◌, inl, inr}
use native.Mathlib.Nat.{add-zero, add-suc, suc-add}
use native.Mathlib.Omega.{arith}
use lib.ListN.{length}
use Rattle.algebra.specs.Residues.{Prime}
use Rattle.algebra.specs.Monomials.{Monomials}
use Rattle.algebra.specs.Orders.{Order}
use Rattle.algebra.specs.Polynomials.{Term, Poly, times, negated, All, Below, Falling, Normal}
use Rattle.algebra.specs.Walk.{Judges, Walked, unfinished, stopped, quotient_term, remains, walk}
use Rattle.algebra.proofs.NormalForm.{sorted_falling, sorted_all}
use Rattle.algebra.proofs.All.{all_map, all_append}
use Rattle.algebra.proofs.Leads.{prime_positive}
use Rattle.algebra.proofs.Steps.{Divisible, Steps, walk_keeps}
use Rattle.algebra.proofs.Walk.{negated_all, remains_below}

module _ {K : Monomials} (O : Order K) (p : ℕ) (lead : Term K) (later : Poly K) (J : Judges K) where
  each-done : Steps O p lead later J (λ n i j f w. w.reply ≡ 0 → w.left ≡ [])
  each-done =
      record {
        ends = λ n i j e. refl;
        pauses = λ i j u f e. absurd (omega arith);
        skips = λ n i j u f w z d. d;
        quotient_stops = λ n i j u f d r h e z. absurd (omega arith);
        quotient_passes = λ n i j u f d w h e k. k;
        remainder_stops = λ n i j u f r d h e z. absurd (omega arith);
        remainder_passes = λ n i j u f w d h e k. k;
      }

  pub walk-done : (n i j : ℕ) (f : Poly K) → (walk O p lead later J n i j f).reply ≡ 0 → (walk O p lead later J n i j f).left ≡ []
  walk-done = walk_keeps O p lead later J each-done

  -- the judge that is asked of the term u, with so many terms written, says n
  abbrev pub Judged : ℕ → ℕ → Term K → ℕ → Type 0
  Judged i j u n = ((d : Divisible lead u.mon) × (n ≡ J.on_quotient i (quotient_term p lead d.0 u))) ⊎ ((Divisible lead u.mon → ⊥) × (n ≡ J.on_remainder j u))

  -- The term at which a judge stopped the walk w, which had i quotient and j remainder terms before it, and what lay below.
  pub record Stop (i j : ℕ) (w : Walked K) : Type 0 where
    pub at : Term K
    pub below : Poly K
    pub left : w.left ≡ at ∷ below
    pub nonzero : 0 < at.num
    pub judged : Judged (i + length w.quotient) (j + length w.remainder) at w.reply

  stops_here : (i j : ℕ) (u : Term K) (f : Poly K) (n : ℕ) → 0 < u.num → Judged i j u n → Stop i j (stopped n (u ∷ f))
  stops_here i j u f n h d =
      record { at = u; below = f; left = refl; nonzero = h; judged = subst (λ (c : ℕ). Judged c (j + 0) u n) (sym (add-zero i)) (subst (λ (c : ℕ). Judged i c u n) (sym (add-zero j)) d) }

  each-stop : Steps O p lead later J (λ n i j f w. (w.reply ≡ 0 → ⊥) → (w.reply ≡ unfinished → ⊥) → Stop i j w)
  each-stop =
      record {
        ends = λ n i j a b. absurd (a refl);
        pauses = λ i j u f a b. absurd (b refl);
        skips = λ n i j u f w z d. d;
        quotient_stops = λ n i j u f d r h e a b. stops_here i j u f (suc r) h (inl (d, sym e));
        quotient_passes =
            λ n i j u f d w h e k a b.
            let s = k a b in
            record {
              at = s.at;
              below = s.below;
              left = s.left;
              nonzero = s.nonzero;
              judged = subst (λ (c : ℕ). Judged c (j + length w.remainder) s.at w.reply) (next i (length w.quotient)) s.judged;
            };
        remainder_stops = λ n i j u f r d h e a b. stops_here i j u f (suc r) h (inr (d, sym e));
        remainder_passes =
            λ n i j u f w d h e k a b.
            let s = k a b in
            record {
              at = s.at;
              below = s.below;
              left = s.left;
              nonzero = s.nonzero;
              judged = subst (λ (c : ℕ). Judged (i + length w.quotient) c s.at w.reply) (next j (length w.remainder)) s.judged;
            };
      }
    where
      next : (i n : ℕ) → suc i + n ≡ i + suc n
      next i n = suc-add i n ∙ sym (add-suc i n)

  pub walk-stopped : (n i j : ℕ) (f : Poly K) → ((walk O p lead later J n i j f).reply ≡ 0 → ⊥) → ((walk O p lead later J n i j f).reply ≡ unfinished → ⊥) → Stop i j (walk O p lead later J n i j f)
  walk-stopped = walk_keeps O p lead later J each-stop

  module _ (P : K.Mon → Type 0) (passed : (i : ℕ) (t : Term K) → J.on_quotient i t ≡ 0 → P t.mon) where
    each_passed : Steps O p lead later J (λ n i j f w. All P w.quotient)
    each_passed =
        record {
          ends = λ n i j. tt;
          pauses = λ i j u f. tt;
          skips = λ n i j u f w z d. d;
          quotient_stops = λ n i j u f d r h e. tt;
          quotient_passes = λ n i j u f d w h e k. (passed i (quotient_term p lead d.0 u) e, k);
          remainder_stops = λ n i j u f r d h e. tt;
          remainder_passes = λ n i j u f w d h e k. k;
        }

    pub walk_passed : (n i j : ℕ) (f : Poly K) → All P (walk O p lead later J n i j f).quotient
    walk_passed = walk_keeps O p lead later J each_passed

  module _ (strict : (j : ℕ) (u : Term K) → J.on_remainder j u ≡ 0 → ⊥) where
    each_strict : Steps O p lead later J (λ n i j f w. w.remainder ≡ [])
    each_strict =
        record {
          ends = λ n i j. refl;
          pauses = λ i j u f. refl;
          skips = λ n i j u f w z d. d;
          quotient_stops = λ n i j u f d r h e. refl;
          quotient_passes = λ n i j u f d w h e k. k;
          remainder_stops = λ n i j u f r d h e. refl;
          remainder_passes = λ n i j u f w d h e k. absurd (strict j u e);
        }

    pub walk_no_remainder : (n i j : ℕ) (f : Poly K) → (walk O p lead later J n i j f).remainder ≡ []
    walk_no_remainder = walk_keeps O p lead later J each_strict

-- Monomials that are met: those of f, and products of quotient terms that passed.

module _ {K : Monomials} (O : Order K) {p : ℕ} (P : Prime p) (lead : Term K) (later : Poly K) (J : Judges K) (Good : K.Mon → Type 0)
    (passes : (i : ℕ) (t : Term K) → J.on_quotient i t ≡ 0 → All Good (times t later)) where
  pub remains_good : (i : ℕ) (t : Term K) (f : Poly K) → J.on_quotient i t ≡ 0 → All Good f → All Good (remains O p later t f)
  remains_good i t f e a =
      sorted_all O p (prime_positive P) Good (f ++ negated p (times t later))
      (all_append Good f (negated p (times t later)) a (negated_all p Good (times t later) (passes i t e)))

  each_met : Steps O p lead later J (λ n i j f w. All Good f → All Good w.remainder)
  each_met =
      record {
        ends = λ n i j a. tt;
        pauses = λ i j u f a. tt;
        skips = λ n i j u f w z d a. d a.1;
        quotient_stops = λ n i j u f d r h e a. tt;
        quotient_passes = λ n i j u f d w h e k a. k (remains_good i (quotient_term p lead d.0 u) f e a.1);
        remainder_stops = λ n i j u f r d h e a. tt;
        remainder_passes = λ n i j u f w d h e k a. (a.0, k a.1);
      }

  pub walk_met : (n i j : ℕ) (f : Poly K) → All Good f → All Good (walk O p lead later J n i j f).remainder
  walk_met = walk_keeps O p lead later J each_met

-- Enough steps: monomials that are met have the property `Good`, and among them a lower one has a lower height.

pub record Heights {K : Monomials} (O : Order K) (later : Poly K) (J : Judges K) : Type 1 where
  pub Good : K.Mon → Type 0
  pub height : K.Mon → ℕ
  pub rises : (a b : K.Mon) → Good a → Good b → O.less a b → height a < height b
  pub passes : (i : ℕ) (t : Term K) → J.on_quotient i t ≡ 0 → All Good (times t later)
  pub answers : (i : ℕ) (t : Term K) → (J.on_quotient i t ≡ unfinished → ⊥) × (J.on_remainder i t ≡ unfinished → ⊥)

module _ {K : Monomials} (O : Order K) {p : ℕ} (P : Prime p) (lead : Term K) (later : Poly K) (ng : Normal O p (lead ∷ later)) (J : Judges K) (H : Heights O later J) where
  -- every monomial is good, and lower than n
  abbrev Under : ℕ → Poly K → Type 0
  Under n f = All (λ m. H.Good m × (H.height m < n)) f

  -- good monomials below u are lower than u
  lower : (u : Term K) (f : Poly K) → H.Good u.mon → All H.Good f → Below O u.mon f → (n : ℕ) → H.height u.mon < suc n → Under n f
  lower u [] g a b n h = tt
  lower u (v ∷ f) g a b n h =
      let k : H.height v.mon < H.height u.mon = H.rises v.mon u.mon a.0 g b.0 in
      ((a.0, omega arith), lower u f g a.1 b.1 n h)

  good : (n : ℕ) (f : Poly K) → Under n f → All H.Good f
  good n f a = all_map (λ m h. h.0) f a

  -- what lies below the first term
  tail_under : (n : ℕ) (u : Term K) (f : Poly K) → Falling O (u ∷ f) → Under (suc n) (u ∷ f) → Under n f
  tail_under n u f fall a = lower u f a.0.0 (good (suc n) f a.1) fall.0 n a.0.1

  each-finished : Steps O p lead later J (λ n i j f w. Falling O f → Under n f → w.reply ≡ unfinished → ⊥)
  each-finished =
      record {
        ends = λ n i j fall a e. omega arith;
        pauses = λ i j u f fall a e. let h : H.height u.mon < 0 = a.0.1 in omega arith;
        skips = λ n i j u f w z d fall a. d fall.1 (tail_under n u f fall a);
        quotient_stops = λ n i j u f d r h e fall a z. (H.answers i (quotient_term p lead d.0 u)).0 (e ∙ z);
        quotient_passes =
            λ n i j u f d w h e k fall a.
            let t = quotient_term p lead d.0 u in
            k (sorted_falling O p (prime_positive P) (f ++ negated p (times t later)))
            (lower u (remains O p later t f) a.0.0 (remains_good O P lead later J H.Good H.passes i t f e (good (suc n) f a.1))
            (remains_below O P lead later ng u t f (K.mul_comm t.mon lead.mon ∙ d.1) fall.0)
            n
            a.0.1);
        remainder_stops = λ n i j u f r d h e fall a z. (H.answers j u).1 (e ∙ z);
        remainder_passes = λ n i j u f w d h e k fall a. k fall.1 (tail_under n u f fall a);
      }

  pub walk_finishes : (n i j : ℕ) (f : Poly K) → Falling O f → Under n f → (walk O p lead later J n i j f).reply ≡ unfinished → ⊥
  walk_finishes = walk_keeps O p lead later J each-finished
