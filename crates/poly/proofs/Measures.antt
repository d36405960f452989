-- The largest weight of a slice, found record by record.
--
--   chunk_word     the first word of a record, among the records as arrays of two words
--   largest_more   the largest weight of n records from the first on and one more
use Prim.Native.Nat.{ℕ, zero, suc, ◌+◌, ◌*◌, ◌<◌, ◌≤◌, max}
use mathlib.Core.Path.{◌≡◌, refl, sym, ◌∙◌, ap}
use mathlib.Core.List.{List, [], ◌∷◌}
use native.Mathlib.Nat.{add-zero, zero-add, suc-add}
use native.Mathlib.Omega.{arith}
use lib.ListN.{length, get_or}
use Rattle.std.specs.Simd.{first_chunks}
use Rattle.algebra.specs.Monomials.{Letters}
use Rattle.algebra.specs.Polynomials.{largest}
use Rattle.monomial.specs.Layout.{base, exponents_of}
use Rattle.poly.specs.Words.{word_at, terms}

pub chunk_word : (s : List ℕ) (n i : ℕ) → i < n → 2 * n ≤ length s → get_or (get_or (first_chunks 2 n s) i []) 0 0 ≡ word_at s i
chunk_word s zero i h l = absurd (omega arith)
chunk_word [] (suc n) i h l = absurd (omega arith)
chunk_word (a ∷ []) (suc n) i h l = absurd (omega arith)
chunk_word (a ∷ b ∷ s) (suc n) zero h l = refl
chunk_word (a ∷ b ∷ s) (suc n) (suc i) h l =
    let next : suc (suc (2 * i)) ≡ 2 * suc i = omega arith in
    chunk_word s n i (omega arith) (omega arith) ∙ ap (λ x. get_or (a ∷ b ∷ s) x 0) next

largest_next : (w : (Letters 4).Mon → ℕ) (s : List ℕ) (i n : ℕ) {e m r : ℕ} → e ≡ w (exponents_of 16 4 (word_at s (i + n))) →
    m ≡ largest w (terms base s i n) → r ≡ max m e → r ≡ largest w (terms base s i (n + 1))
largest_next w s i zero {e} {m} {r} f g k =
    let here : e ≡ w (exponents_of 16 4 (word_at s i)) = f ∙ ap (λ x. w (exponents_of 16 4 (word_at s x))) (add-zero i) in
    omega arith
largest_next w s i (suc n) {e} {m} {r} f g k =
    let first = w (exponents_of 16 4 (word_at s i)) in
    let next : suc i + n ≡ i + suc n = omega arith in
    let behind : max (largest w (terms base s (suc i) n)) e ≡ largest w (terms base s (suc i) (n + 1)) =
    largest_next w s (suc i) n {m = largest w (terms base s (suc i) n)} (f ∙ ap (λ x. w (exponents_of 16 4 (word_at s x))) (sym next)) refl refl in
    let so_far : m ≡ max first (largest w (terms base s (suc i) n)) = g in
    let all : r ≡ max first (largest w (terms base s (suc i) (n + 1))) = omega (arith, behind, so_far, k) in
    all ∙ ap (λ x. largest w (terms base s i x)) (sym (suc-add n 1))

pub largest_more : (w : (Letters 4).Mon → ℕ) (s : List ℕ) (n : ℕ) {e m r : ℕ} → e ≡ w (exponents_of 16 4 (word_at s n)) →
    m ≡ largest w (terms base s 0 n) → r ≡ max m e → r ≡ largest w (terms base s 0 (n + 1))
largest_more w s n f = largest_next w s 0 n (f ∙ ap (λ x. w (exponents_of 16 4 (word_at s x))) (sym (zero-add n)))
