-- A room is filled with the normal form of a polynomial, from its greatest monomial down.
--
--   Step                                   the greatest monomial of what is left, its coefficient, and what is left behind it
--   Filling                                n records of the room are written, and the normal form of what is left belongs behind them
--   fill-starts, fill_skips, fill_writes   nothing yet; a coefficient of 0; a term more
--   fill_full, fill-ends                   the two ways out: a term is due and the room is full; nothing is left
use Prim.Native.Nat.{ℕ, suc, ◌+◌, ◌/◌, ◌<◌, ◌≤◌}
use mathlib.Core.Path.{◌≡◌, refl, sym, ◌∙◌, ap, subst}
use mathlib.Core.List.{List, [], ◌∷◌, ◌++◌, append-nil, append_assoc}
use native.Mathlib.Nat.{mod-eq_of_lt, pos_of_ne-zero}
use native.Mathlib.Omega.{arith}
use lib.ListN.{length, length-append}
use Rattle.algebra.specs.Monomials.{Numbers}
use Rattle.algebra.specs.Orders.{Rising}
use Rattle.algebra.specs.Polynomials.{term, Poly, Equal, keep, norm, Below}
use Rattle.algebra.proofs.NormalForm.{extract}
use Rattle.algebra.proofs.Leads.{keep_positive}
use Rattle.poly.specs.Words.{records, span}
use Rattle.poly.proofs.Readings.{length-span, span_stored}
use Rattle.poly.proofs.Records.{put, put-length}
use Rattle.calls.specs.Endings.{Filled}

pub record Step (p : ℕ) (rest : Poly Numbers) (m c : ℕ) (rest' : Poly Numbers) : Type 0 where
  pub small : c < p
  pub sums : Equal p rest (term m c ∷ rest')
  pub lower : Below Rising m rest'

pub record Filling (p : ℕ) (whole rest : Poly Numbers) (room₀ room : List ℕ) (n : ℕ) : Type 0 where
  pub as_long : length room ≡ length room₀
  pub within : n ≤ records room
  pub written : norm Rising p whole ≡ span room 0 n ++ norm Rising p rest

module _ (p : ℕ) (pos : 0 < p) (whole : Poly Numbers) (room₀ : List ℕ) where
  pub fill-starts : Filling p whole whole room₀ room₀ 0
  fill-starts = record { as_long = refl; within = omega arith; written = refl }

  module _ (rest : Poly Numbers) (room : List ℕ) (n m c : ℕ) (rest' : Poly Numbers) (f : Filling p whole rest room₀ room n) (s : Step p rest m c rest') where
    abbrev later : Poly Numbers
    later = norm Rising p rest'

    next : norm Rising p rest ≡ keep m c later
    next = extract Rising pos m c rest' s.sums s.lower ∙ ap (λ (x : ℕ). keep {K = Numbers} m x later) (mod-eq_of_lt s.small)

    pub fill_skips : c ≡ 0 → Filling p whole rest' room₀ room n
    fill_skips z =
        record {
          as_long = f.as_long;
          within = f.within;
          written =
              f.written ∙ ap (λ (g : Poly Numbers). span room 0 n ++ g) (next ∙ ap (λ (x : ℕ). keep {K = Numbers} m x later) z);
        }

    -- where the coefficient is not 0 there is a term more
    term_more : (c ≡ 0 → ⊥) → norm Rising p whole ≡ span room 0 n ++ (term m c ∷ later)
    term_more z = f.written ∙ ap (λ (g : Poly Numbers). span room 0 n ++ g) (next ∙ keep_positive m c later (pos_of_ne-zero z))

    pub fill_writes : (room' : List ℕ) → room' ≡ put room n m c → (c ≡ 0 → ⊥) → n < records room → Filling p whole rest' room₀ room' (n + 1)
    fill_writes room' e z h =
        subst (λ x. Filling p whole rest' room₀ x (n + 1)) (sym e)
        (record {
          as_long = put-length room n m c ∙ f.as_long;
          within = omega (arith, put-length room n m c);
          written =
              term_more z
              ∙ sym (append_assoc (span room 0 n) (term m c ∷ []) later)
              ∙ ap (λ (g : Poly Numbers). g ++ later) (sym (span_stored room n m c (omega arith)));
        })

    pub fill_full : (c ≡ 0 → ⊥) → n ≡ records room → Filled p whole room₀ room (n + 1)
    fill_full z e =
        let same : records room ≡ records room₀ = ap (λ (x : ℕ). x / 2) f.as_long in
        let long : length (norm Rising p whole) ≡ n + suc (length later) = ap length (term_more z) ∙ length-append (span room 0 n) (term m c ∷ later)
        ∙ ap (λ (x : ℕ). x + suc (length later)) (length-span room 0 n) in
        record { fits = λ k. absurd (omega arith); full = λ k. omega arith }

  pub fill-ends : (rest : Poly Numbers) (room : List ℕ) (n : ℕ) → Filling p whole rest room₀ room n → rest ≡ [] → Filled p whole room₀ room n
  fill-ends rest room n f z =
      record {
        fits = λ k. sym (f.written ∙ ap (λ (g : Poly Numbers). span room 0 n ++ norm Rising p g) z ∙ append-nil (span room 0 n));
        full = λ k. absurd (omega (arith, f.within, ap (λ (x : ℕ). x / 2) f.as_long));
      }
