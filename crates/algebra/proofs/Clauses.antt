-- A walk clause by clause, and what was written before it.
--
--   joined-quotient, joined-remainder     with a term more that passed
--   quotient-stopped, remainder-stopped   a judge's reply other than 0 is the walk's
--   walk-ends                             nothing is left
--   walk_skips                            the greatest monomial was cancelled
--   walk-quotient                         the divisor's lead divides the greatest monomial: its quotient term goes to the judge
--   walk-remainder                        the lead does not divide it: it goes to the judge of the remainder
use Prim.Native.Nat.{ℕ, zero, suc, ◌<◌}
use mathlib.Core.Path.{◌≡◌, refl, sym, ◌∙◌, ap}
use mathlib.Core.List.{[], ◌∷◌, ◌++◌, append_assoc}
use native.Mathlib.Omega.{arith}
use Rattle.algebra.specs.Monomials.{Monomials}
use Rattle.algebra.specs.Orders.{Order}
use Rattle.algebra.specs.Polynomials.{Term, Poly}
use Rattle.algebra.specs.Walk.{Judges, Walked, stopped, joined, to_quotient, to_remainder, quotient_term, remains, handle, walk}

module _ {K : Monomials} where
  pub joined-quotient : (q r : Poly K) (t : Term K) (f : Poly K) (w : Walked K) (n : ℕ) → n ≡ 0 → joined q r (to_quotient n t f w) ≡ joined (q ++ (t ∷ [])) r w
  joined-quotient q r t f w zero e = λ i. record { reply = w.reply; quotient = sym (append_assoc q (t ∷ []) w.quotient) i; remainder = r ++ w.remainder; left = w.left }
  joined-quotient q r t f w (suc n) e = absurd (omega arith)

  pub joined-remainder : (q r : Poly K) (t : Term K) (f : Poly K) (w : Walked K) (n : ℕ) → n ≡ 0 → joined q r (to_remainder n t f w) ≡ joined q (r ++ (t ∷ [])) w
  joined-remainder q r t f w zero e = λ i. record { reply = w.reply; quotient = q ++ w.quotient; remainder = sym (append_assoc r (t ∷ []) w.remainder) i; left = w.left }
  joined-remainder q r t f w (suc n) e = absurd (omega arith)

  -- a judge's reply other than 0 is the walk's
  pub quotient-stopped : (t : Term K) (f : Poly K) (w : Walked K) (n : ℕ) → (n ≡ 0 → ⊥) → (to_quotient n t f w).reply ≡ n
  quotient-stopped t f w zero k = absurd (k refl)
  quotient-stopped t f w (suc n) k = refl

  pub remainder-stopped : (t : Term K) (f : Poly K) (w : Walked K) (n : ℕ) → (n ≡ 0 → ⊥) → (to_remainder n t f w).reply ≡ n
  remainder-stopped t f w zero k = absurd (k refl)
  remainder-stopped t f w (suc n) k = refl

module _ {K : Monomials} (O : Order K) (p : ℕ) (lead : Term K) (later : Poly K) (J : Judges K) where
  pub walk-ends : (n i j : ℕ) → walk O p lead later J n i j [] ≡ stopped 0 []
  walk-ends zero i j = refl
  walk-ends (suc n) i j = refl

  module _ (next : ℕ → ℕ → Poly K → Walked K) (i j : ℕ) (u : Term K) (f : Poly K) where
    handle_skips : (c : ℕ) (d : Dec ((q : K.Mon) × (K.mul lead.mon q ≡ u.mon))) → c ≡ 0 → handle O p lead later J next i j u f c d ≡ next i j f
    handle_skips zero d e = refl
    handle_skips (suc c) d e = absurd (omega arith)

    handle-quotient : (c : ℕ) (d : Dec ((q : K.Mon) × (K.mul lead.mon q ≡ u.mon))) → 0 < c → (q : K.Mon) → K.mul lead.mon q ≡ u.mon →
        handle O p lead later J next i j u f c d ≡ to_quotient (J.on_quotient i (quotient_term p lead q u)) (quotient_term p lead q u) (u ∷ f)
        (next (suc i) j (remains O p later (quotient_term p lead q u) f))
    handle-quotient zero d h q e = absurd (omega arith)
    handle-quotient (suc c) (yes x) h q e =
        ap (λ m. to_quotient (J.on_quotient i (quotient_term p lead m u)) (quotient_term p lead m u) (u ∷ f) (next (suc i) j (remains O p later (quotient_term p lead m u) f)))
        (K.mul_cancel lead.mon x.0 q (x.1 ∙ sym e))
    handle-quotient (suc c) (no n) h q e = absurd (n (q, e))

    handle-remainder : (c : ℕ) (d : Dec ((q : K.Mon) × (K.mul lead.mon q ≡ u.mon))) → 0 < c →
        (((q : K.Mon) × (K.mul lead.mon q ≡ u.mon)) → ⊥) → handle O p lead later J next i j u f c d ≡ to_remainder (J.on_remainder j u) u (u ∷ f) (next i (suc j) f)
    handle-remainder zero d h n = absurd (omega arith)
    handle-remainder (suc c) (yes x) h n = absurd (n x)
    handle-remainder (suc c) (no k) h n = refl

  module _ (n i j : ℕ) (u : Term K) (f : Poly K) where
    pub walk_skips : u.num ≡ 0 → walk O p lead later J (suc n) i j (u ∷ f) ≡ walk O p lead later J n i j f
    walk_skips e = handle_skips (walk O p lead later J n) i j u f u.num (K.quotient lead.mon u.mon) e

    pub walk-quotient : 0 < u.num → (q : K.Mon) → K.mul lead.mon q ≡ u.mon →
        walk O p lead later J (suc n) i j (u ∷ f) ≡ to_quotient (J.on_quotient i (quotient_term p lead q u)) (quotient_term p lead q u) (u ∷ f)
        (walk O p lead later J n (suc i) j (remains O p later (quotient_term p lead q u) f))
    walk-quotient h q e = handle-quotient (walk O p lead later J n) i j u f u.num (K.quotient lead.mon u.mon) h q e

    pub walk-remainder : 0 < u.num → (((q : K.Mon) × (K.mul lead.mon q ≡ u.mon)) → ⊥) →
        walk O p lead later J (suc n) i j (u ∷ f) ≡ to_remainder (J.on_remainder j u) u (u ∷ f) (walk O p lead later J n i (suc j) f)
    walk-remainder h k = handle-remainder (walk O p lead later J n) i j u f u.num (K.quotient lead.mon u.mon) h k
