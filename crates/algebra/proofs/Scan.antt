-- Laws of `first t i n`, the first of the n numbers i, i + 1, .. that passes the test t, or i + n.
--
--   first_here, first-next                one step: i passes; i fails
--   first-stop, first_up                  one step of a loop up to n: i passes; i fails
--   first_down                            one step of a loop from n down: one number more in front
--   first_from, first_within              it is at least i and at most i + n
--   first_hit                             below i + n it passes
--   first_miss                            every number from i and before it fails
--   first_unique                          no other number from i to i + n has these properties
use Prim.Native.Nat.{ℕ, zero, suc, ◌+◌, ◌-◌, ◌<◌, ◌≤◌}
use mathlib.Core.Path.{◌≡◌, refl, sym, ◌∙◌, ap}
use mathlib.Core.Bool.{Bool, true, false}
use mathlib.Core.Logic.{◌⊎◌, inl, inr}
use native.Mathlib.Nat.{le_refl, eq-or-lt_of_le}
use native.Mathlib.Decide.{dec_lt}
use native.Mathlib.Numerals.{add-one}
use native.Mathlib.Omega.{arith}
use Rattle.algebra.specs.Residues.{first, pick}
use Rattle.algebra.proofs.Tests.{never}

-- One step

pub first_here : (t : ℕ → Bool) (i n : ℕ) → t i ≡ true → first t i (suc n) ≡ i
first_here t i n h = ap (λ b. pick b i (first t (suc i) n)) h

pub first-next : (t : ℕ → Bool) (i n : ℕ) → t i ≡ false → first t i (suc n) ≡ first t (suc i) n
first-next t i n h = ap (λ b. pick b i (first t (suc i) n)) h

-- a scan from i up to n, at a number that passes and at one that fails, as a loop up to n has it
pub first-stop : (t : ℕ → Bool) (i n : ℕ) → i < n → t i ≡ true → first t i (n - i) ≡ i
first-stop t i n h e =
    let more : n - i ≡ suc (n - (i + 1)) = omega arith in
    ap (first t i) more ∙ first_here t i (n - (i + 1)) e

pub first_up : (t : ℕ → Bool) (i n : ℕ) → i < n → t i ≡ false → first t i (n - i) ≡ first t (i + 1) (n - (i + 1))
first_up t i n h e =
    let more : n - i ≡ suc (n - (i + 1)) = omega arith in
    ap (first t i) more ∙ first-next t i (n - (i + 1)) e ∙ ap (λ x. first t x (n - (i + 1))) (sym (add-one i))

-- a scan from i up to n with one number more in front, as a loop from the last number down has it
pub first_down : (t : ℕ → Bool) (i n : ℕ) {hit : Bool} {place r : ℕ} → 0 < i → i ≤ n → r ≡ pick hit (i - 1) place → hit ≡ t (i - 1) → place ≡ first t i (n - i) → r ≡ first t (i - 1) (n - (i - 1))
first_down t i n h k er eh ep =
    let up : i ≡ suc (i - 1) = omega arith in
    let more : suc (n - i) ≡ n - (i - 1) = omega arith in
    er ∙ (λ d. pick (eh d) (i - 1) (ep d)) ∙ ap (λ x. pick (t (i - 1)) (i - 1) (first t x (n - i))) up ∙ ap (first t (i - 1)) more

-- Where it lies

pick_from : (b : Bool) {i r : ℕ} → suc i ≤ r → i ≤ pick b i r
pick_from true h = le_refl _
pick_from false h = omega arith

pub first_from : (t : ℕ → Bool) (i n : ℕ) → i ≤ first t i n
first_from t i zero = le_refl i
first_from t i (suc n) = pick_from (t i) (first_from t (suc i) n)

pick_within : (b : Bool) (i n : ℕ) {r : ℕ} → r ≤ suc i + n → pick b i r ≤ i + suc n
pick_within true i n h = omega arith
pick_within false i n h = omega arith

pub first_within : (t : ℕ → Bool) (i n : ℕ) → first t i n ≤ i + n
first_within t i zero = omega arith
first_within t i (suc n) = pick_within (t i) i n (first_within t (suc i) n)

-- What passes

pick_hit : (t : ℕ → Bool) (b : Bool) (i n : ℕ) {r : ℕ} → t i ≡ b → (r < suc i + n → t r ≡ true) → pick b i r < i + suc n → t (pick b i r) ≡ true
pick_hit t true i n e f h = e
pick_hit t false i n e f h = f (omega arith)

pub first_hit : (t : ℕ → Bool) (i n : ℕ) → first t i n < i + n → t (first t i n) ≡ true
first_hit t i zero h = absurd (omega arith)
first_hit t i (suc n) h = pick_hit t (t i) i n refl (first_hit t (suc i) n) h

at_or_after : (t : ℕ → Bool) {i j : ℕ} {b : Bool} → t i ≡ b → (suc i ≤ j → t j ≡ b) → i ≤ j → t j ≡ b
at_or_after t e f h = elim (eq-or-lt_of_le h) [ inl k ↦ rw (← k) e | inr k ↦ f k ]

pick_miss : (t : ℕ → Bool) (b : Bool) {i r j : ℕ} → t i ≡ b → (suc i ≤ j → j < r → t j ≡ false) → i ≤ j → j < pick b i r → t j ≡ false
pick_miss t true e f h k = absurd (omega arith)
pick_miss t false e f h k = at_or_after t e (λ l. f l k) h

pub first_miss : (t : ℕ → Bool) (i n : ℕ) {j : ℕ} → i ≤ j → j < first t i n → t j ≡ false
first_miss t i zero h k = absurd (omega arith)
first_miss t i (suc n) h k = pick_miss t (t i) refl (first_miss t (suc i) n) h k

-- Nothing else does

pub first_unique : (t : ℕ → Bool) (i n k : ℕ) → i ≤ k → k ≤ i + n → ((j : ℕ) → i ≤ j → j < k → t j ≡ false) → (t k ≡ true) ⊎ (k ≡ i + n) → first t i n ≡ k
first_unique t i n k from within before end =
    elim (dec_lt (first t i n) k) [
      | yes h ↦ absurd (never (first_hit t i n (omega arith)) (before _ (first_from t i n) h))
      | no h ↦ elim (dec_lt k (first t i n)) [ yes l ↦ absurd (not_later l) | no l ↦ omega arith ]
    ]
  where
    not_later : k < first t i n → ⊥
    not_later h =
        elim end [
          | inl e ↦ never e (first_miss t i n from h)
          | inr e ↦ let w : first t i n ≤ i + n = first_within t i n in omega arith
        ]
