-- Why a walk never runs out of steps: every monomial that it meets fits a word, and each is lower than the one before.
--
--   heights                what `walk_finishes` asks, of both kinds of judges
use Prim.Native.Nat.{ℕ, ◌<◌, ◌≤◌}
use mathlib.Core.Path.{◌≡◌, subst}
use mathlib.Core.Bool.{Bool, true, false}
use mathlib.Core.List.{[], ◌∷◌}
use native.Mathlib.Omega.{arith}
use lib.Dec.{ltb}
use Rattle.algebra.specs.Residues.{pick}
use Rattle.algebra.specs.Monomials.{Letters, exponent}
use Rattle.algebra.specs.Orders.{Lex}
use Rattle.algebra.specs.Polynomials.{Term, Poly, times, largest, All}
use Rattle.algebra.specs.Walk.{unfinished}
use Rattle.algebra.proofs.Degrees.{largest_all}
use Rattle.algebra.proofs.WalkEnds.{Heights}
use Rattle.monomial.specs.Layout.{base, fits, divides}
use Rattle.monomial.proofs.Laws.{write, fit, coding}
use Rattle.poly.specs.Profiles.{maxima}
use Rattle.judges.specs.Judges.{unless_full}
use Rattle.judges.specs.Plans.{judges_by}
use Rattle.poly.proofs.Maxima.{under_maxima-fits}
use Rattle.judges.proofs.Judging.{by_passes}

-- one of two replies
picked : (t : Bool) (x y n : ℕ) → (x ≡ n → ⊥) → (y ≡ n → ⊥) → pick t x y ≡ n → ⊥
picked true x y n h k e = h e
picked false x y n h k e = k e

-- a room's reply is 0 or its own
full_other : (i room n : ℕ) → n < unfinished → unless_full i room n ≡ unfinished → ⊥
full_other i room n h e = picked (ltb i room) 0 n unfinished (λ z. omega arith) (λ z. omega arith) e

module _ (f g : Poly (Letters 4)) (q r : ℕ) where
  pub quotient_answers : (b : Bool) (i : ℕ) (t : Term (Letters 4)) → (judges_by b f g q r).on_quotient i t ≡ unfinished → ⊥
  quotient_answers true i t e = picked (divides 4 ((Letters 4).mul t.mon (maxima g)) (maxima f)) (unless_full i q 10) 12 unfinished (full_other i q 10 (omega arith)) (λ z. omega arith) e
  quotient_answers false i t e = picked (fits 16 4 ((Letters 4).mul t.mon (maxima g))) (unless_full i q 10) 9 unfinished (full_other i q 10 (omega arith)) (λ z. omega arith) e

  pub remainder_answers : (b : Bool) (j : ℕ) (t : Term (Letters 4)) → (judges_by b f g q r).on_remainder j t ≡ unfinished → ⊥
  remainder_answers true j t e = omega arith
  remainder_answers false j t e = full_other j r 11 (omega arith) e

  -- products with terms of g fit where the one with g's maxima does
  pub products-fit : (t : Term (Letters 4)) → fit base ((Letters 4).mul t.mon (maxima g)) ≡ true → (k : Poly (Letters 4)) →
      ((v : ℕ) → All (λ m. exponent 4 v m ≤ largest (exponent 4 v) g) k) → All (λ m. fit base m ≡ true) (times t k)
  products-fit t h [] a = tt
  products-fit t h (u ∷ k) a = (under_maxima-fits t.mon u.mon g (λ v. (a v).0) h, products-fit t h k (λ v. (a v).1))

  unfoldable pub heights : (b : Bool) → fit base (maxima f) ≡ true → (lead : Term (Letters 4)) (later : Poly (Letters 4)) → g ≡ lead ∷ later → Heights (Lex 4) later (judges_by b f g q r)
  heights b ff lead later e =
      record {
        Good = λ m. fit base m ≡ true;
        height = write base;
        rises = λ x y hx hy l. ((coding base).word_less x y hx hy).0 l;
        passes =
            λ i t z. products-fit t (by_passes f g q r b t.mon i t.num ff z).0 later
            (λ v. (subst (λ (k : Poly (Letters 4)). All (λ m. exponent 4 v m ≤ largest (exponent 4 v) g) k) e (largest_all (exponent 4 v) g)).1);
        answers = λ i t. (quotient_answers b i t, remainder_answers b i t);
      }
