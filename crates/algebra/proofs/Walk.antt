-- What a walk of division has written, at every step.
--
--   quotient-coef   the quotient term's number times the lead's number is the number divided
--   step_equation   taking one quotient multiple away
--   Divides f w     after the walk w down f: f ≡ q · g + (r + what is left), no term of r divisible by g's lead, q and r normal,
--                   what is left falls
--   walk-divides    every walk divides, whatever its judges and however many its steps
use Prim.Native.Nat.{ℕ, suc, ◌+◌, ◌*◌, ◌%◌, ◌<◌}
use mathlib.Core.Path.{◌≡◌, refl, sym, ◌∙◌, ap, subst}
use mathlib.Core.List.{[], ◌∷◌, ◌++◌}
use native.Mathlib.Nat.{mod-lt, add-zero, zero-mul, pos_of_ne-zero}
use native.Mathlib.Omega.{arith}
use Rattle.algebra.specs.Residues.{Same, Prime, inverse}
use Rattle.algebra.specs.Monomials.{Monomials}
use Rattle.algebra.specs.Orders.{Order, Tri, below, level, above}
use Rattle.algebra.specs.Polynomials.{Term, Poly, only, Equal, NoMultiple, times, mul, negated, All, Below, Falling, Normal}
use Rattle.algebra.specs.Walk.{Judges, Walked, unfinished, stopped, to_quotient, to_remainder, quotient_term, remains, walk}
use Rattle.algebra.proofs.Residues.{same_eq, same_refl, same_sym, same_trans, same_mod, same_add, same_mul, same_mul-left, same_below, same_minus}
use Rattle.algebra.proofs.Primes.{inverse_law}
use Rattle.algebra.proofs.Totals.{total, total-append, equal_by}
use Rattle.algebra.proofs.NormalForm.{Small, below_trans, sorted_falling, sorted_small, sorted_all, sorted-total, equal_refl, equal_sym, equal_trans, equal_total}
use Rattle.algebra.proofs.All.{all_append}
use Rattle.algebra.proofs.Ring.{sum_equal, sum_assoc, total-negated}
use Rattle.algebra.proofs.Leads.{prime_positive, lead-nonzero, times_below}
use Rattle.algebra.proofs.Steps.{Steps, walk_keeps}

pub negated_all : {K : Monomials} (p : ℕ) (Q : K.Mon → Type 0) (f : Poly K) → All Q f → All Q (negated p f)
negated_all p Q [] a = tt
negated_all p Q (u ∷ f) a = (a.0, negated_all p Q f a.1)

pub record Divides {K : Monomials} (O : Order K) (p : ℕ) (lead : Term K) (later f : Poly K) (w : Walked K) : Type 0 where
  pub equation : Equal p f (mul w.quotient (lead ∷ later) ++ (w.remainder ++ w.left))
  pub none : NoMultiple p lead.mon w.remainder
  pub quotient_normal : Normal O p w.quotient
  pub remainder_normal : Normal O p w.remainder
  pub quotient_below : (m : K.Mon) → Below O (K.mul lead.mon m) f → Below O m w.quotient
  pub remainder_below : (m : K.Mon) → Below O m f → Below O m w.remainder
  pub left_falling : Falling O w.left

module _ {K : Monomials} (O : Order K) {p : ℕ} (P : Prime p) (lead : Term K) (later : Poly K) (ng : Normal O p (lead ∷ later)) where
  pos : 0 < p
  pos = prime_positive P

  pub quotient-coef : (c : ℕ) → Same p ((c * inverse p lead.num % p) * lead.num) c
  quotient-coef c =
      same_trans (same_mul (same_mod (c * inverse p lead.num)) same_refl)
      (same_trans (same_eq (omega arith))
      (same_trans (same_mul-left c (inverse_law P lead.num (lead-nonzero lead later ng))) (same_eq (omega arith))))

  pub step_equation : (u t : Term K) (f : Poly K) → Same p (t.num * lead.num) u.num → K.mul t.mon lead.mon ≡ u.mon → Equal p (u ∷ f) (times t (lead ∷ later) ++ remains O p later t f)
  step_equation u t f c m =
      equal_by
      (λ φ. same_sym
      (same_trans (same_eq (total-append φ (times t (lead ∷ later)) (remains O p later t f)))
      (same_trans (same_add same_refl (sorted-total O p pos φ (f ++ negated p (times t later))))
      (same_trans
      (same_eq (omega (arith, total-append φ f (negated p (times t later)), total-negated p φ (times t later))))
      (same_trans
      (same_add {b = u.num * φ u.mon + total φ f}
      (same_add (same_trans (same_mul c same_refl) (same_eq (ap (λ x. u.num * φ x) m))) same_refl)
      (same_minus (total φ (times t later)) pos))
      (same_eq (add-zero _)))))))

  -- all that remains is below the monomial that was handled
  pub remains_below : (u t : Term K) (f : Poly K) → K.mul t.mon lead.mon ≡ u.mon → Below O u.mon f → Below O u.mon (remains O p later t f)
  remains_below u t f m b =
      sorted_all O p pos (λ n. O.less n u.mon) (f ++ negated p (times t later))
      (all_append (λ n. O.less n u.mon) f (negated p (times t later)) b
      (negated_all p (λ n. O.less n u.mon) (times t later) (subst (λ x. Below O x (times t later)) m (times_below O t lead.mon later ng.falling.0))))

  -- the number of a quotient term is 1 to p − 1
  quotient_positive : (c : ℕ) → 0 < c → c < p → 0 < c * inverse p lead.num % p
  quotient_positive c h k =
      pos_of_ne-zero
      (λ e.
      let z : Same p c 0 = same_trans (same_sym (quotient-coef c)) (same_eq (ap (λ (x : ℕ). x * lead.num) e ∙ zero-mul lead.num)) in
      let d : c ≡ 0 = same_below k pos z in
      omega arith)

  skipped : (u : Term K) (f : Poly K) (w : Walked K) → 0 ≡ u.num → Divides O p lead later f w → Divides O p lead later (u ∷ f) w
  skipped u f w z d =
      record {
        equation = equal_trans (equal_by (λ φ. same_eq (omega (arith, ap (λ (x : ℕ). x * φ u.mon) z)))) d.equation;
        none = d.none;
        quotient_normal = d.quotient_normal;
        remainder_normal = d.remainder_normal;
        quotient_below = λ m b. d.quotient_below m b.1;
        remainder_below = λ m b. d.remainder_below m b.1;
        left_falling = d.left_falling;
      }

  stops : (r : ℕ) (f : Poly K) → Falling O f → Divides O p lead later f (stopped r f)
  stops r f fall =
      record {
        equation = equal_refl;
        none = record { none = λ q. same_refl };
        quotient_normal = record { falling = tt; reduced = tt };
        remainder_normal = record { falling = tt; reduced = tt };
        quotient_below = λ m b. tt;
        remainder_below = λ m b. tt;
        left_falling = fall;
      }

  -- a monomial below a product of the lead is the lead's product with something below
  divide-less : (q m : K.Mon) → O.less (K.mul lead.mon q) (K.mul lead.mon m) → O.less q m
  divide-less q m h = go (O.compare q m)
    where
      go : Tri (O.less q m) (q ≡ m) (O.less m q) → O.less q m
      go (below k) = k
      go (level e) = absurd (O.irreflexive (K.mul lead.mon m) (subst (λ x. O.less (K.mul lead.mon x) (K.mul lead.mon m)) e h))
      go (above k) = absurd (O.irreflexive _ (O.transitive _ _ _ h (O.grows lead.mon m q k)))

  divided : (u t : Term K) (f : Poly K) (w : Walked K) → Falling O (u ∷ f) → 0 < u.num → u.num < p → K.mul lead.mon t.mon ≡ u.mon →
      t.num ≡ u.num * inverse p lead.num % p → Divides O p lead later (remains O p later t f) w → Divides O p lead later (u ∷ f) (to_quotient 0 t (u ∷ f) w)
  divided u t f w fall h k e c d =
      let e' : K.mul t.mon lead.mon ≡ u.mon = K.mul_comm t.mon lead.mon ∙ e in
      record {
        equation =
            equal_trans (step_equation u t f (subst (λ x. Same p (x * lead.num) u.num) (sym c) (quotient-coef u.num)) e')
            (equal_trans (sum_equal O pos (equal_refl {f = times t (lead ∷ later)}) d.equation)
            (equal_sym (sum_assoc (times t (lead ∷ later)) (mul w.quotient (lead ∷ later)) (w.remainder ++ w.left))));
        none = d.none;
        quotient_normal =
            record {
              falling = (
                d.quotient_below t.mon (subst (λ x. Below O x (remains O p later t f)) (sym e) (remains_below u t f e' fall.0)),
                d.quotient_normal.falling,
              );
              reduced = (
                subst (λ x. 0 < x) (sym c) (quotient_positive u.num h k),
                subst (λ x. x < p) (sym c) (mod-lt (u.num * inverse p lead.num) pos),
                d.quotient_normal.reduced,
              );
            };
        remainder_normal = d.remainder_normal;
        quotient_below =
            λ m b. (
              divide-less t.mon m (subst (λ x. O.less x (K.mul lead.mon m)) (sym e) b.0),
              d.quotient_below m (below_trans O u.mon _ b.0 (remains O p later t f) (remains_below u t f e' fall.0)),
            );
        remainder_below = λ m b. d.remainder_below m (below_trans O u.mon m b.0 (remains O p later t f) (remains_below u t f e' fall.0));
        left_falling = d.left_falling;
      }

  undivided_coef : (u : Term K) → (((q : K.Mon) × (K.mul lead.mon q ≡ u.mon)) → ⊥) → (q : K.Mon) (d : Dec (u.mon ≡ K.mul lead.mon q)) → only d u.num ≡ 0
  undivided_coef u n q (yes e) = absurd (n (q, sym e))
  undivided_coef u n q (no k) = refl

  moved : (u : Term K) (f : Poly K) (w : Walked K) → Falling O (u ∷ f) → 0 < u.num → u.num < p →
      (((q : K.Mon) × (K.mul lead.mon q ≡ u.mon)) → ⊥) → Divides O p lead later f w → Divides O p lead later (u ∷ f) (to_remainder 0 u (u ∷ f) w)
  moved u f w fall h k n d =
      record {
        equation =
            equal_by
            (λ φ. same_trans (same_add same_refl (equal_total O pos φ d.equation))
            (same_eq
            (omega (
              arith,
              total-append φ (mul w.quotient (lead ∷ later)) (w.remainder ++ w.left),
              total-append φ (mul w.quotient (lead ∷ later)) (u ∷ w.remainder ++ w.left),
            ))));
        none =
            record {
              none = λ q. same_trans (same_add (same_eq (undivided_coef u n q (K.decide u.mon (K.mul lead.mon q)))) (d.none.none q)) (same_eq (add-zero 0));
            };
        quotient_normal = d.quotient_normal;
        remainder_normal =
            record {
              falling = (d.remainder_below u.mon fall.0, d.remainder_normal.falling);
              reduced = (h, k, d.remainder_normal.reduced);
            };
        quotient_below = λ m b. d.quotient_below m b.1;
        remainder_below = λ m b. (b.0, d.remainder_below m b.1);
        left_falling = d.left_falling;
      }

  module _ (J : Judges K) where
    each-step : Steps O p lead later J (λ n i j f w. Falling O f → Small p f → Divides O p lead later f w)
    each-step =
        record {
          ends = λ n i j fall small. stops 0 [] fall;
          pauses = λ i j u f fall small. stops unfinished (u ∷ f) fall;
          skips = λ n i j u f w z d fall small. skipped u f w (sym z) (d fall.1 small.1);
          quotient_stops = λ n i j u f d r h e fall small. stops (suc r) (u ∷ f) fall;
          quotient_passes =
              λ n i j u f d w h e k fall small.
              let t = quotient_term p lead d.0 u in
              divided u t f w fall h small.0 d.1 refl
              (k (sorted_falling O p pos (f ++ negated p (times t later))) (sorted_small O p pos (f ++ negated p (times t later))));
          remainder_stops = λ n i j u f r d h e fall small. stops (suc r) (u ∷ f) fall;
          remainder_passes = λ n i j u f w d h e k fall small. moved u f w fall h small.0 d (k fall.1 small.1);
        }

    pub walk-divides : (n i j : ℕ) (f : Poly K) → Falling O f → Small p f → Divides O p lead later f (walk O p lead later J n i j f)
    walk-divides = walk_keeps O p lead later J each-step
