-- What the end of a walk says of all polynomials, of any size.
--
--   done-divides             a walk that replies 0 has found f ≡ q · g + r with no term of r divisible by g's lead, q and r normal
--   done-only                and every pair of lists with these two properties is equal to q and r
--   refused-term             where f ≡ h · g and the walk was stopped by a judge, that judge refused the next term of h's normal form
--   exact_none               where f ≡ h · g, there is no remainder
--   next-coef                a term of h's normal form stands at a monomial where h has a coefficient
--   exact_done               where f ≡ h · g, a walk that replies 0 has written h's normal form
--   Trouble, stop_trouble    where a walk was stopped: f ≡ q · g + r + what is left, and what the judge said of its greatest term
use Prim.Native.Nat.{ℕ, ◌+◌, ◌<◌}
use mathlib.Core.Path.{◌≡◌, refl, sym, ◌∙◌, ap, subst}
use mathlib.Core.List.{[], ◌∷◌, ◌++◌, append-nil}
use mathlib.Core.Logic.{◌⊎◌, inl, inr}
use native.Mathlib.Nat.{zero-add}
use native.Mathlib.Omega.{arith}
use lib.ListN.{length}
use Rattle.algebra.specs.Residues.{Same, Prime}
use Rattle.algebra.specs.Monomials.{Monomials}
use Rattle.algebra.specs.Orders.{Order}
use Rattle.algebra.specs.Polynomials.{Term, Poly, only, coef, Equal, NoMultiple, mul, norm, Below, Falling, Reduced, Normal}
use Rattle.algebra.specs.Walk.{Judges, Walked, unfinished, walk}
use Rattle.algebra.proofs.Residues.{same_eq, same_trans}
use Rattle.algebra.proofs.Primes.{below_not_zero}
use Rattle.algebra.proofs.NormalForm.{Small, lead-coef, norm_normal, norm_equal, normal_unique, equal_sym, equal_trans}
use Rattle.algebra.proofs.Leads.{prime_positive, normal_tail, multiple_zero, division_unique}
use Rattle.algebra.proofs.Walk.{Divides, walk-divides}
use Rattle.algebra.proofs.WalkEnds.{Judged, Stop, walk-done, walk-stopped}
use Rattle.algebra.proofs.Exact.{Exact, walk_exact}

module _ {K : Monomials} (O : Order K) where
  apart : (a b : K.Mon) (c : ℕ) (d : Dec (a ≡ b)) → O.less b a → only d c ≡ 0
  apart a b c (yes e) h = absurd (O.irreflexive a (subst (λ x. O.less x a) (sym e) h))
  apart a b c (no n) h = refl

  -- the monomial of a later term is below that of the first
  later_below : (m : K.Mon) (f : Poly K) (t : Term K) (g : Poly K) → Below O m (f ++ t ∷ g) → O.less t.mon m
  later_below m [] t g b = b.0
  later_below m (u ∷ f) t g b = later_below m f t g b.1

  term-coef : (f : Poly K) (t : Term K) (g : Poly K) → Falling O (f ++ t ∷ g) → coef (f ++ t ∷ g) t.mon ≡ t.num
  term-coef [] t g d = lead-coef O t g d.0
  term-coef (u ∷ f) t g d =
      omega (arith, apart u.mon t.mon u.num (K.decide u.mon t.mon) (later_below u.mon f t g d.0), term-coef f t g d.1)

-- the back part of a normal polynomial is normal
back_normal : {K : Monomials} {O : Order K} {p : ℕ} (f g : Poly K) → Normal O p (f ++ g) → Normal O p g
back_normal [] g n = n
back_normal (u ∷ f) g n = back_normal f g (normal_tail u (f ++ g) n)

-- What is left after the terms q and r were written falls from the term `at`, and the judge that is asked of it said n.
pub record Trouble {K : Monomials} (O : Order K) (p : ℕ) (lead : Term K) (later : Poly K) (J : Judges K) (f q r : Poly K) (n : ℕ) : Type 0 where
  pub at : Term K
  pub below : Poly K
  pub equation : Equal p f (mul q (lead ∷ later) ++ (r ++ at ∷ below))
  pub falling : Falling O (at ∷ below)
  pub nonzero : 0 < at.num
  pub judged : Judged O p lead later J (length q) (length r) at n

module _ {K : Monomials} (O : Order K) {p : ℕ} (P : Prime p) (lead : Term K) (later : Poly K) (ng : Normal O p (lead ∷ later)) (J : Judges K) (n : ℕ)
    (f : Poly K) (fall : Falling O f) (small : Small p f) where
  abbrev walked : Walked K
  walked = walk O p lead later J n 0 0 f

  divided : Divides O p lead later f walked
  divided = walk-divides O P lead later ng J n 0 0 f fall small

  pub done-divides : walked.reply ≡ 0 → Equal p f (mul walked.quotient (lead ∷ later) ++ walked.remainder) × NoMultiple p lead.mon walked.remainder
  done-divides e =
      let nothing : walked.left ≡ [] = walk-done O p lead later J n 0 0 f e in
      let all : walked.remainder ++ walked.left ≡ walked.remainder = ap (λ (k : Poly K). walked.remainder ++ k) nothing ∙ append-nil walked.remainder in
      (subst (λ (k : Poly K). Equal p f (mul walked.quotient (lead ∷ later) ++ k)) all divided.equation, divided.none)

  pub done-only : walked.reply ≡ 0 → (q' r' : Poly K) → Equal p f (mul q' (lead ∷ later) ++ r') → NoMultiple p lead.mon r' → Equal p walked.quotient q' × Equal p walked.remainder r'
  done-only e q' r' d z =
      let own = done-divides e in
      division_unique O P lead later ng walked.quotient walked.remainder q' r' (equal_trans (equal_sym own.0) d) own.1 z

  pub stop_trouble : (walked.reply ≡ 0 → ⊥) → (walked.reply ≡ unfinished → ⊥) → Trouble O p lead later J f walked.quotient walked.remainder walked.reply
  stop_trouble a b =
      let s : Stop O p lead later J 0 0 walked = walk-stopped O p lead later J n 0 0 f a b in
      record {
        at = s.at;
        below = s.below;
        equation = subst (λ (k : Poly K). Equal p f (mul walked.quotient (lead ∷ later) ++ (walked.remainder ++ k))) s.left divided.equation;
        falling = subst (Falling O) s.left divided.left_falling;
        nonzero = s.nonzero;
        judged =
            subst (λ (c : ℕ). Judged O p lead later J c (length walked.remainder) s.at walked.reply) (zero-add (length walked.quotient))
            (subst (λ (c : ℕ). Judged O p lead later J (0 + length walked.quotient) c s.at walked.reply) (zero-add (length walked.remainder)) s.judged);
      }

  -- f is a multiple of g
  module _ (h : Poly K) (d : Equal p f (mul h (lead ∷ later))) where
    exact : Exact O p lead later J h 0 walked
    exact = walk_exact O P lead later ng J n 0 0 f h fall small d

    pub exact_none : walked.remainder ≡ []
    exact_none = exact.none

    -- a term of h's normal form, with its coefficient in h
    pub next-coef : (q : Poly K) (t : Term K) (k : Poly K) → norm O p h ≡ q ++ t ∷ k → Same p (coef h t.mon) 0 → ⊥
    next-coef q t k e z =
        let N : Normal O p (q ++ t ∷ k) = subst (Normal O p) e (norm_normal O (prime_positive P) h) in
        positive q t k N.reduced (same_trans (same_eq (sym (term-coef O q t k N.falling)))
        (same_trans (same_eq (ap (λ (f : Poly K). coef f t.mon) (sym e))) (same_trans ((norm_equal O (prime_positive P) h).equal t.mon) z)))
      where
        positive : (q : Poly K) (t : Term K) (k : Poly K) → Reduced p (q ++ t ∷ k) → Same p t.num 0 → ⊥
        positive [] t k r z = below_not_zero r.0 r.1 z
        positive (u ∷ q) t k r z = positive q t k r.2 z

    pub refused-term : (walked.reply ≡ 0 → ⊥) → (walked.reply ≡ unfinished → ⊥) →
        (t : Term K) × (k : Poly K) × (norm O p h ≡ walked.quotient ++ t ∷ k) × (walked.reply ≡ J.on_quotient (length walked.quotient) t)
    refused-term a b = go exact.ended
      where
        go : ((walked.reply ≡ 0) × (exact.rest ≡ [])) ⊎ ((walked.reply ≡ unfinished) ⊎
            ((t : Term K) × (k : Poly K) × (exact.rest ≡ t ∷ k) × (walked.reply ≡ J.on_quotient (0 + length walked.quotient) t))) →
            (t : Term K) × (k : Poly K) × (norm O p h ≡ walked.quotient ++ t ∷ k) × (walked.reply ≡ J.on_quotient (length walked.quotient) t)
        go (inl e) = absurd (a e.0)
        go (inr (inl e)) = absurd (b e)
        go (inr (inr e)) =
            (e.0, e.1, exact.written ∙ ap (λ (k : Poly K). walked.quotient ++ k) e.2, e.3 ∙ ap (λ (x : ℕ). J.on_quotient x e.0) (zero-add (length walked.quotient)))

    pub exact_done : walked.reply ≡ 0 → walked.quotient ≡ norm O p h
    exact_done e =
        let nothing : walked.left ≡ [] = walk-done O p lead later J n 0 0 f e in
        let zero : Equal p (mul exact.rest (lead ∷ later)) [] = subst (λ (k : Poly K). Equal p (mul exact.rest (lead ∷ later)) k) nothing (equal_sym exact.left) in
        let none : Equal p exact.rest [] = multiple_zero O P lead later ng exact.rest (record { none = λ q. zero.equal (K.mul lead.mon q) }) in
        let rest-normal : Normal O p exact.rest = back_normal walked.quotient exact.rest (subst (Normal O p) exact.written (norm_normal O (prime_positive P) h)) in
        let empty : exact.rest ≡ [] = normal_unique O exact.rest [] rest-normal (record { falling = tt; reduced = tt }) none in
        sym (exact.written ∙ ap (λ (k : Poly K). walked.quotient ++ k) empty ∙ append-nil walked.quotient)
