-- Largest exponents that add up to more than fits.
--
--   bursts                   the test of one letter
--   Over, Within, FirstOver  two exponents that burst, two that do not, and the answer of a search for the first that do
--   burst-found              that answer is the first letter that bursts, by the exponents that the engine measured
--   pair_small               the sum of two exponents that the engine measured
--   burst_some               a letter that bursts, where the first is one of the four
--   no_burst, products-fit   where no letter bursts, every product of monomials fits
--   one_bursts, none_bursts  what an answer tells of the first letter that bursts
--   burst_comm               the factors may change places
--   sides                    two valid slices as rows and columns of a tree
use Prim.Native.Nat.{ℕ, zero, suc, ◌+◌, ◌^◌, ◌≤◌, ◌<◌}
use mathlib.Core.Path.{◌≡◌, refl, sym, ◌∙◌, ap, subst}
use mathlib.Core.Bool.{Bool, true, false}
use mathlib.Core.List.{List, [], ◌∷◌}
use native.Mathlib.Nat.{add_comm}
use native.Mathlib.Omega.{arith}
use lib.Dec.{ltb}
use lib.ListN.{length, get_or}
use borrow.Author.Tests.{ltb-true, ltb-false}
use Rattle.std.proofs.Common.{Option, Some, None, is_some}
use Rattle.std.specs.List.{zip, AllWithin, HoldsAt}
use Rattle.std.specs.Option.{MatchOption}
use Rattle.algebra.specs.Residues.{first, pick}
use Rattle.algebra.specs.Monomials.{Letters, exponent}
use Rattle.algebra.specs.Orders.{exponent_adds}
use Rattle.algebra.specs.Polynomials.{Term, Poly, times, mul, largest, All}
use Rattle.algebra.proofs.Scan.{first_hit, first_miss}
use Rattle.algebra.proofs.All.{all_append}
use Rattle.algebra.proofs.Degrees.{largest_all}
use Rattle.monomial.specs.Layout.{base, largest_exponent}
use Rattle.monomial.proofs.Laws.{fit}
use Rattle.poly.specs.Words.{records, poly_of}
use Rattle.poly.specs.Valid.{Valid}
use Rattle.poly.specs.Profiles.{measure_of}
use Rattle.poly.specs.declared.profile.Profile.{Profile}
use Rattle.poly.proofs.Maxima.{letters_fit, words_small}
use Rattle.tree.specs.Tree.{Sides}
use Rattle.expansion.specs.Bursts.{burst_at}
use Rattle.expansion.specs.Found.{first_burst}

abbrev pub bursts : Poly (Letters 4) → Poly (Letters 4) → ℕ → Bool
bursts f g v = ltb (largest_exponent 16) (largest (exponent 4 v) f + largest (exponent 4 v) g)

-- the sum of two exponents is too large, and it is not
abbrev pub Over : ℕ × ℕ → Type 0
Over x = ltb 32767 (x.0 + x.1) ≡ true

abbrev pub Within : ℕ × ℕ → Type 0
Within x = ltb 32767 (x.0 + x.1) ≡ false

-- the first of four tests that passed
abbrev of_four : Bool → Bool → Bool → Bool → Option ℕ
of_four b₀ b₁ b₂ b₃ = let v = pick b₀ 0 (pick b₁ 1 (pick b₂ 2 (pick b₃ 3 4))) in pick (ltb v 4) (Some v) None

-- the answer of a search through a list
abbrev pub FirstOver : Option ℕ → List (ℕ × ℕ) → Type 0
FirstOver r xs = MatchOption r (AllWithin Within xs 0 (length xs)) (λ i. (i < length xs) × HoldsAt Over xs i × AllWithin Within xs 0 i)

module _ (x₀ x₁ x₂ x₃ : ℕ × ℕ) where
  abbrev four : List (ℕ × ℕ)
  four = x₀ ∷ x₁ ∷ x₂ ∷ x₃ ∷ []

  abbrev over : ℕ × ℕ → Bool
  over x = ltb 32767 (x.0 + x.1)

  first_over : (r : Option ℕ) → FirstOver r four → r ≡ of_four (over x₀) (over x₁) (over x₂) (over x₃)
  first_over None n = sym (λ d. of_four (n 0 x₀ (omega arith) (omega arith) d) (n 1 x₀ (omega arith) (omega arith) d) (n 2 x₀ (omega arith) (omega arith) d) (n 3 x₀ (omega arith) (omega arith) d))
  first_over (Some zero) (l, y, n) = sym (λ d. of_four (y x₀ d) (over x₁) (over x₂) (over x₃))
  first_over (Some (suc zero)) (l, y, n) = sym (λ d. of_four (n 0 x₀ (omega arith) (omega arith) d) (y x₀ d) (over x₂) (over x₃))
  first_over (Some (suc (suc zero))) (l, y, n) =
      sym (λ d. of_four (n 0 x₀ (omega arith) (omega arith) d) (n 1 x₀ (omega arith) (omega arith) d) (y x₀ d) (over x₃))
  first_over (Some (suc (suc (suc zero)))) (l, y, n) =
      sym (λ d. of_four (n 0 x₀ (omega arith) (omega arith) d) (n 1 x₀ (omega arith) (omega arith) d) (n 2 x₀ (omega arith) (omega arith) d) (y x₀ d))
  first_over (Some (suc (suc (suc (suc i))))) (l, y, n) = absurd (omega arith)

pub burst-found : (a b : List ℕ) {m n : Profile} → m ≡ measure_of a → n ≡ measure_of b →
    (r : Option ℕ) → FirstOver r (zip m.exponents n.exponents) → r ≡ first_burst (poly_of base a) (poly_of base b)
unfolding measure_of
burst-found a b e f r h =
    first_over _ _ _ _ r (subst (FirstOver r) (λ d. zip (e d).exponents (f d).exponents) h)

-- the sum of a pair of exponents that the engine measured fits a word
pairs_small : (f g : ℕ → ℕ) → ((v : ℕ) → f v < 2 ^ 16) → ((v : ℕ) → g v < 2 ^ 16) → (k : ℕ) (x : ℕ × ℕ) → k < 4 →
    x ≡ get_or ((f 0, g 0) ∷ (f 1, g 1) ∷ (f 2, g 2) ∷ (f 3, g 3) ∷ []) k x → x.0 + x.1 < 2 ^ 17
pairs_small f g h l zero x b e = omega (arith, ap (λ (y : ℕ × ℕ). y.0) e, ap (λ (y : ℕ × ℕ). y.1) e, h 0, l 0)
pairs_small f g h l (suc zero) x b e = omega (arith, ap (λ (y : ℕ × ℕ). y.0) e, ap (λ (y : ℕ × ℕ). y.1) e, h 1, l 1)
pairs_small f g h l (suc (suc zero)) x b e = omega (arith, ap (λ (y : ℕ × ℕ). y.0) e, ap (λ (y : ℕ × ℕ). y.1) e, h 2, l 2)
pairs_small f g h l (suc (suc (suc zero))) x b e = omega (arith, ap (λ (y : ℕ × ℕ). y.0) e, ap (λ (y : ℕ × ℕ). y.1) e, h 3, l 3)
pairs_small f g h l (suc (suc (suc (suc k)))) x b e = absurd (omega arith)

pub pair_small : (a b : List ℕ) {m n : Profile} → m ≡ measure_of a → n ≡ measure_of b → ((v : ℕ) → largest (exponent 4 v) (poly_of base a) < 2 ^ 16) →
    ((v : ℕ) → largest (exponent 4 v) (poly_of base b) < 2 ^ 16) → (k : ℕ) (x : ℕ × ℕ) → k < length (zip m.exponents n.exponents) →
    x ≡ get_or (zip m.exponents n.exponents) k x → x.0 + x.1 < 2 ^ 17
unfolding measure_of
pair_small a b e f h l k x i g =
    pairs_small (λ v. largest (exponent 4 v) (poly_of base a)) (λ v. largest (exponent 4 v) (poly_of base b)) h l k x
    (subst (λ (xs : List (ℕ × ℕ)). k < length xs) (λ d. zip (e d).exponents (f d).exponents) i)
    (subst (λ (xs : List (ℕ × ℕ)). x ≡ get_or xs k x) (λ d. zip (e d).exponents (f d).exponents) g)

module _ (f g : Poly (Letters 4)) where
  pub no_burst : 4 ≤ burst_at f g → (v : ℕ) → v < 4 → largest (exponent 4 v) f + largest (exponent 4 v) g ≤ 32767
  no_burst h v l = ltb-false 32767 _ (first_miss (bursts f g) 0 4 {j = v} (omega arith) (omega arith))

  pub burst_some : burst_at f g < 4 → 32767 < largest (exponent 4 (burst_at f g)) f + largest (exponent 4 (burst_at f g)) g
  burst_some h = ltb-true 32767 _ (first_hit (bursts f g) 0 4 h)

module _ (f g : Poly (Letters 4)) (r : Option ℕ) (e : r ≡ first_burst f g) where
  first_is_some : is_some r ≡ ltb (burst_at f g) 4
  first_is_some = ap is_some e ∙ go (ltb (burst_at f g) 4)
    where
      go : (b : Bool) → is_some (pick b (Some (burst_at f g)) None) ≡ b
      go true = refl
      go false = refl

  pub one_bursts : is_some r ≡ true → burst_at f g < 4
  one_bursts h = ltb-true (burst_at f g) 4 (sym first_is_some ∙ h)

  pub none_bursts : is_some r ≡ false → 4 ≤ burst_at f g
  none_bursts h = ltb-false (burst_at f g) 4 (sym first_is_some ∙ h)

pub burst_comm : (f g : Poly (Letters 4)) → burst_at f g ≡ burst_at g f
burst_comm f g =
    ap (λ (t : ℕ → Bool). first t 0 4)
    (λ i v. ltb (largest_exponent 16) (add_comm (largest (exponent 4 v) f) (largest (exponent 4 v) g) i))

module _ (f g : Poly (Letters 4)) (h : 4 ≤ burst_at f g) where
  -- every exponent of each monomial is at most the letter's largest of f, or of g
  abbrev Under : Poly (Letters 4) → Poly (Letters 4) → Type 0
  Under f k = (v : ℕ) → All (λ m. exponent 4 v m ≤ largest (exponent 4 v) f) k

  fits-times : (t : Term (Letters 4)) (k : Poly (Letters 4)) → ((v : ℕ) → exponent 4 v t.mon ≤ largest (exponent 4 v) f) → Under g k →
      All (λ m. fit base m ≡ true) (times t k)
  fits-times t [] x y = tt
  fits-times t (u ∷ k) x y = (
    letters_fit ((Letters 4).mul t.mon u.mon) (λ v l. omega (arith, exponent_adds 4 v t.mon u.mon, x v, (y v).0, no_burst f g h v l)),
    fits-times t k x (λ v. (y v).1),
  )

  fits-mul : (j k : Poly (Letters 4)) → Under f j → Under g k → All (λ m. fit base m ≡ true) (mul j k)
  fits-mul [] k x y = tt
  fits-mul (t ∷ j) k x y =
      all_append (λ m. fit base m ≡ true) (times t k) (mul j k) (fits-times t k (λ v. (x v).0) y) (fits-mul j k (λ v. (x v).1) y)

  pub products-fit : All (λ m. fit base m ≡ true) (mul f g)
  products-fit = fits-mul f g (λ v. largest_all (exponent 4 v) f) (λ v. largest_all (exponent 4 v) g)

pub sides : (p : ℕ) (rows cols : List ℕ) → Valid p rows → Valid p cols → records rows < 2 ^ 32 → records cols < 2 ^ 32 → Sides rows cols p
sides p rows cols vr vc fr fc =
    record {
      rows_words = words_small p rows vr;
      rows_coefs = λ i h. (vr.coefs i h).1;
      cols_words = words_small p cols vc;
      cols_coefs = λ i h. (vc.coefs i h).1;
      few = (fr, fc);
    }
