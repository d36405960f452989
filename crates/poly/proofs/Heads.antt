-- Keys of records, and what a slice has at the greatest key that is left of it.
--
--   max_other, max_lower               of the greater of two numbers
--   key_here, key_beyond, key_within   the key of a record, and behind the last; only a record that is there has one
--   key-next                           the next record's key is lower
--   span_below                         the records from one on are below a word that is not below its key
--   span-done                          none is left where there is no key
--   HeadTaken                          what the head at a key takes from the records that are left, as sums and as monomials
--   head_equal                         what is left of F, and of L signed, is one term at the head's monomial and what is left of both behind it
--   head_taken                         the head at a key that none exceeds takes all that a falling slice has there
use Prim.Native.Nat.{ℕ, zero, suc, ◌+◌, ◌-◌, ◌*◌, ◌%◌, ◌<◌, ◌≤◌, max}
use mathlib.Core.Path.{◌≡◌, refl, sym, ◌∙◌, ap, subst}
use mathlib.Core.Bool.{Bool, true, false}
use mathlib.Core.List.{List, [], ◌∷◌, ◌++◌}
use native.Mathlib.Nat.{zero-add, max-le, max-eq_left, max-eq_right}
use native.Mathlib.Decide.{ℕ_discrete, dec_lt}
use native.Mathlib.Omega.{arith}
use borrow.Author.Tests.{lt-ltb, le-ltb, eq-eqb, ne_eqb}
use Rattle.algebra.specs.Residues.{Same, pick}
use Rattle.algebra.specs.Monomials.{Numbers}
use Rattle.algebra.specs.Orders.{Rising}
use Rattle.algebra.specs.Polynomials.{term, Poly, only, count, Equal, signed, signed_coef, Below, Falling}
use Rattle.algebra.proofs.Residues.{same_eq, same_refl, same_sym, same_trans, same_mod, same_add, same_mul, same_mul-left}
use Rattle.algebra.proofs.Totals.{total, total-append, equal_by}
use Rattle.algebra.proofs.NormalForm.{below_trans, equal_total}
use Rattle.algebra.proofs.Ring.{total-negated}
use Rattle.algebra.proofs.Sorted.{head_count}
use Rattle.moduli.proofs.Moduli.{negative_same}
use Rattle.poly.specs.Words.{records, word_at, coef_at, span}
use Rattle.poly.specs.Keys.{key_at, head_at}
use Rattle.poly.specs.declared.keys.Head.{Head}
use Rattle.poly.proofs.Readings.{span_falling}

-- the greater of two numbers is one of them
pub max_other : (a b : ℕ) → a < max a b → b ≡ max a b
max_other a b h = elim (dec_lt a b) [ yes l ↦ sym (max-eq_right (omega arith)) | no l ↦ absurd (omega (arith, max-eq_left {n = a} {m = b} (omega arith))) ]

pub max_lower : {a b k : ℕ} → a < k → b < k → max a b < k
max_lower {a} {b} {k} h l = let m : max a b ≤ k - 1 = max-le (omega arith) (omega arith) in omega arith

module _ (f : List ℕ) (i : ℕ) where
  pub key_here : i < records f → key_at f i ≡ word_at f i + 1
  key_here h = ap (λ b. pick b (word_at f i + 1) 0) (lt-ltb i (records f) h)

  pub key_beyond : records f ≤ i → key_at f i ≡ 0
  key_beyond h = ap (λ b. pick b (word_at f i + 1) 0) (le-ltb i (records f) h)

-- only a record that is there has a key
pub key_within : (f : List ℕ) (i : ℕ) → 0 < key_at f i → i < records f
key_within f i h = elim (dec_lt i (records f)) [ yes l ↦ l | no l ↦ absurd (omega (arith, key_beyond f i (omega arith))) ]

pub key-next : (f : List ℕ) → ((i : ℕ) → suc i < records f → word_at f (suc i) < word_at f i) → (i : ℕ) → i < records f → key_at f (i + 1) < word_at f i + 1
key-next f falls i h = go (dec_lt (i + 1) (records f))
  where
    go : Dec (i + 1 < records f) → key_at f (i + 1) < word_at f i + 1
    go (yes l) =
        let place : suc i ≡ i + 1 = omega arith in
        omega (arith, key_here f (i + 1) l, falls i (omega arith), ap (word_at f) place)
    go (no l) = omega (arith, key_beyond f (i + 1) (omega arith))

-- What is left of a slice from a record on

pub span-done : (s : List ℕ) (i : ℕ) → key_at s i ≡ 0 → span s i (records s - i) ≡ []
span-done s i z =
    let none : records s - i ≡ 0 = elim (dec_lt i (records s)) [ yes h ↦ absurd (omega (arith, key_here s i h)) | no h ↦ omega arith ] in
    ap (span s i) none

-- one term of a count that stands elsewhere
pub other_count : (m x : ℕ) (d : Dec (m ≡ x)) → (x ≡ m → ⊥) → only d 1 ≡ 0
other_count m x (yes e) n = absurd (n (sym e))
other_count m x (no k) n = refl

pub record HeadTaken (s : List ℕ) (i k : ℕ) (h : Head) : Type 0 where
  pub within : h.next ≤ records s
  pub onward : i ≤ h.next
  pub moved : key_at s i ≡ k → i < h.next
  pub lower : key_at s h.next < k
  pub totals : (φ : ℕ → ℕ) → total φ (span s i (records s - i)) ≡ h.coef * φ (k - 1) + total φ (span s h.next (records s - h.next))
  pub counts : (x : ℕ) → (x ≡ k - 1 → ⊥) → count x (span s i (records s - i)) ≡ count x (span s h.next (records s - h.next))
  pub stands : key_at s i ≡ k → 0 < count (k - 1) (span s i (records s - i))
  pub coefs : (p : ℕ) → 0 < p → ((j : ℕ) → j < records s → coef_at s j < p) → h.coef < p

module _ (s : List ℕ) (falls : (i : ℕ) → suc i < records s → word_at s (suc i) < word_at s i) where
  pub span_below : (i m : ℕ) → key_at s i ≤ m → Below Rising m (span s i (records s - i))
  span_below i m h = go (records s - i) refl
    where
      go : (n : ℕ) → records s - i ≡ n → Below Rising m (span s i n)
      go zero e = tt
      go (suc n) e =
          let lower : word_at s i < m = omega (arith, key_here s i (omega arith)) in
          let falling : Falling Rising (span s i (suc n)) = span_falling s i (suc n) (λ j a b. falls j (omega arith)) in
          (lower, below_trans Rising (word_at s i) m lower (span s (suc i) n) falling.0)

  module _ (i k : ℕ) (some : 0 < k) (within : i ≤ records s) (top : key_at s i ≤ k) where
    abbrev either : Bool → Head
    either b = pick b (record { coef = coef_at s i; next = i + 1 }) (record { coef = 0; next = i })

    taken_here : key_at s i ≡ k → HeadTaken s i k (record { coef = coef_at s i; next = i + 1 })
    taken_here e =
        let h : i < records s = key_within s i (omega arith) in
        let mon : word_at s i ≡ k - 1 = omega (arith, key_here s i h) in
        let more : records s - i ≡ suc (records s - (i + 1)) = omega arith in
        let place : suc i ≡ i + 1 = omega arith in
        let later = span s (i + 1) (records s - (i + 1)) in
        let front : span s i (records s - i) ≡ term (k - 1) (coef_at s i) ∷ later = ap (span s i) more ∙ (λ d. term (mon d) (coef_at s i) ∷ span s (place d) (records s - (i + 1))) in
        record {
          within = omega arith;
          onward = omega arith;
          moved = λ z. omega arith;
          lower = omega (arith, key-next s falls i h, key_here s i h);
          totals = λ φ. ap (total φ) front;
          counts = λ x n. ap (count {K = Numbers} x) front ∙ ap (λ y. y + count {K = Numbers} x later) (other_count (k - 1) x (Numbers.decide (k - 1) x) n) ∙ zero-add (count {K = Numbers} x later);
          stands = λ z. subst (λ f. 0 < count {K = Numbers} (k - 1) f) (sym front) (head_count (term {K = Numbers} (k - 1) (coef_at s i)) later);
          coefs = λ p pos small. small i h;
        }

    taken-none : (key_at s i ≡ k → ⊥) → HeadTaken s i k (record { coef = 0; next = i })
    taken-none n =
        record {
          within = within;
          onward = omega arith;
          moved = λ z. absurd (n z);
          lower = omega arith;
          totals = λ φ. omega arith;
          counts = λ x m. refl;
          stands = λ z. absurd (n z);
          coefs = λ p pos small. pos;
        }

    pub head_taken : (h : Head) → h ≡ head_at s i k → HeadTaken s i k h
    head_taken h e =
        subst (HeadTaken s i k) (sym e)
        (elim (ℕ_discrete (key_at s i) k) [
          | yes d ↦ subst (HeadTaken s i k) (sym (ap either (eq-eqb (key_at s i) k d))) (taken_here d)
          | no n ↦ subst (HeadTaken s i k) (sym (ap either (ne_eqb (key_at s i) k n))) (taken-none n)
        ])

-- What is greatest of two

-- the factor of a sign
abbrev sign : ℕ → Bool → ℕ
sign p true = p - 1
sign p false = 1

signed-total : (p : ℕ) (minus : Bool) (φ : ℕ → ℕ) (f : Poly Numbers) → total φ (signed p minus f) ≡ sign p minus * total φ f
signed-total p true φ f = total-negated p φ f
signed-total p false φ f = omega arith

signed_same : (p : ℕ) (minus : Bool) (t : ℕ) → t < p → Same p (signed_coef p minus t) (sign p minus * t)
signed_same p true t h = negative_same h
signed_same p false t h = same_eq (omega arith)

module _ (p : ℕ) (pos : 0 < p) (minus : Bool) (F F' L L' : Poly Numbers) (m a t : ℕ) (totals : (φ : ℕ → ℕ) → total φ F ≡ a * φ m + total φ F') (sums : Equal p L (term m t ∷ L')) (small : t < p) where
  abbrev c : ℕ
  c = (a + signed_coef p minus t) % p

  abbrev s : ℕ
  s = sign p minus

  head_same : Same p c (a + s * t)
  head_same = same_trans (same_mod (a + signed_coef p minus t)) (same_add same_refl (signed_same p minus t small))

  head_total : (φ : ℕ → ℕ) → Same p (total φ (F ++ signed p minus L)) (c * φ m + total φ (F' ++ signed p minus L'))
  head_total φ =
      same_trans (same_eq (omega (arith, total-append φ F (signed p minus L), signed-total p minus φ L, totals φ)))
      (same_trans {b = a * φ m + total φ F' + s * (t * φ m + total φ L')}
      (same_add same_refl (same_mul-left s (equal_total Rising pos φ sums)))
      (same_trans {b = (a + s * t) * φ m + (total φ F' + s * total φ L')}
      (same_eq (omega arith))
      (same_trans (same_add (same_mul (same_sym head_same) same_refl) same_refl)
      (same_eq (omega (arith, total-append φ F' (signed p minus L'), signed-total p minus φ L'))))))

  pub head_equal : Equal p (F ++ signed p minus L) (term m c ∷ (F' ++ signed p minus L'))
  head_equal = equal_by head_total
