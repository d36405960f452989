-- One induction for all that is said of walks.
--
--   Divisible      a lead term's monomial divides a monomial
--   Steps Q        the seven ways in which a step goes keep Q, which speaks of the steps allowed, the terms written before, what the
--                  walk goes down, and the walk
--   walk_keeps     then Q holds of every walk
use Prim.Native.Nat.{ℕ, zero, suc, ◌<◌}
use mathlib.Core.Path.{◌≡◌, refl, sym}
use mathlib.Core.List.{[], ◌∷◌}
use native.Mathlib.Omega.{arith}
use Rattle.algebra.specs.Monomials.{Monomials}
use Rattle.algebra.specs.Orders.{Order}
use Rattle.algebra.specs.Polynomials.{Term, Poly}
use Rattle.algebra.specs.Walk.{Judges, Walked, unfinished, stopped, to_quotient, to_remainder, quotient_term, remains, handle, walk}

abbrev pub Divisible : {K : Monomials} → Term K → K.Mon → Type 0
Divisible {K} lead m = (q : K.Mon) × (K.mul lead.mon q ≡ m)

module _ {K : Monomials} (O : Order K) (p : ℕ) (lead : Term K) (later : Poly K) (J : Judges K) where
  pub record Steps (Q : ℕ → ℕ → ℕ → Poly K → Walked K → Type 0) : Type 0 where
    pub ends : (n i j : ℕ) → Q n i j [] (stopped 0 [])
    pub pauses : (i j : ℕ) (u : Term K) (f : Poly K) → Q 0 i j (u ∷ f) (stopped unfinished (u ∷ f))
    pub skips : (n i j : ℕ) (u : Term K) (f : Poly K) (w : Walked K) → u.num ≡ 0 → Q n i j f w → Q (suc n) i j (u ∷ f) w
    pub quotient_stops : (n i j : ℕ) (u : Term K) (f : Poly K) (d : Divisible lead u.mon) (r : ℕ) → 0 < u.num →
        J.on_quotient i (quotient_term p lead d.0 u) ≡ suc r → Q (suc n) i j (u ∷ f) (stopped (suc r) (u ∷ f))
    pub quotient_passes : (n i j : ℕ) (u : Term K) (f : Poly K) (d : Divisible lead u.mon) (w : Walked K) → 0 < u.num →
        J.on_quotient i (quotient_term p lead d.0 u) ≡ 0 → Q n (suc i) j (remains O p later (quotient_term p lead d.0 u) f) w → Q (suc n) i j
        (u ∷ f) (to_quotient 0 (quotient_term p lead d.0 u) (u ∷ f) w)
    pub remainder_stops : (n i j : ℕ) (u : Term K) (f : Poly K) (r : ℕ) → (Divisible lead u.mon → ⊥) → 0 < u.num → J.on_remainder j u ≡ suc r → Q (suc n) i j (u ∷ f) (stopped (suc r) (u ∷ f))
    pub remainder_passes : (n i j : ℕ) (u : Term K) (f : Poly K) (w : Walked K) → (Divisible lead u.mon → ⊥) → 0 < u.num →
        J.on_remainder j u ≡ 0 → Q n i (suc j) f w → Q (suc n) i j (u ∷ f) (to_remainder 0 u (u ∷ f) w)

  module _ {Q : ℕ → ℕ → ℕ → Poly K → Walked K → Type 0} (S : Steps Q) where
    judged-quotient : (n i j : ℕ) (u : Term K) (f : Poly K) (d : Divisible lead u.mon) (w : Walked K) → 0 < u.num → (r : ℕ) →
        J.on_quotient i (quotient_term p lead d.0 u) ≡ r → Q n (suc i) j (remains O p later (quotient_term p lead d.0 u) f) w → Q (suc n) i j
        (u ∷ f) (to_quotient r (quotient_term p lead d.0 u) (u ∷ f) w)
    judged-quotient n i j u f d w h zero e k = S.quotient_passes n i j u f d w h e k
    judged-quotient n i j u f d w h (suc r) e k = S.quotient_stops n i j u f d r h e

    judged-remainder : (n i j : ℕ) (u : Term K) (f : Poly K) (w : Walked K) → (Divisible lead u.mon → ⊥) → 0 < u.num → (r : ℕ) →
        J.on_remainder j u ≡ r → Q n i (suc j) f w → Q (suc n) i j (u ∷ f) (to_remainder r u (u ∷ f) w)
    judged-remainder n i j u f w d h zero e k = S.remainder_passes n i j u f w d h e k
    judged-remainder n i j u f w d h (suc r) e k = S.remainder_stops n i j u f r d h e

    -- one step, over whatever walks on
    handled : (n : ℕ) (next : ℕ → ℕ → Poly K → Walked K) → ((i j : ℕ) (f : Poly K) → Q n i j f (next i j f)) →
        (i j : ℕ) (u : Term K) (f : Poly K) (c : ℕ) (d : Dec (Divisible lead u.mon)) → c ≡ u.num → Q (suc n) i j (u ∷ f) (handle O p lead later J next i j u f c d)
    handled n next rest i j u f zero d e = S.skips n i j u f _ (sym e) (rest i j f)
    handled n next rest i j u f (suc c) (yes d) e =
        judged-quotient n i j u f d _ (omega arith) _ refl (rest (suc i) j (remains O p later (quotient_term p lead d.0 u) f))
    handled n next rest i j u f (suc c) (no d) e = judged-remainder n i j u f _ d (omega arith) _ refl (rest i (suc j) f)

    pub walk_keeps : (n i j : ℕ) (f : Poly K) → Q n i j f (walk O p lead later J n i j f)
    walk_keeps zero i j [] = S.ends 0 i j
    walk_keeps zero i j (u ∷ f) = S.pauses i j u f
    walk_keeps (suc n) i j [] = S.ends (suc n) i j
    walk_keeps (suc n) i j (u ∷ f) =
        handled n (walk O p lead later J n) (walk_keeps n) i j u f u.num (K.quotient lead.mon u.mon) refl
