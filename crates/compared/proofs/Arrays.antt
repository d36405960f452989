-- Arrays compared word by word with what they have to hold.
--
--   parted                            an array holds words followed by one word, if its front holds the words and the rest that word
--   lent-long, part-lent, part-long   the words of an array that is lent, and of a part of it
use Rattle.std.proofs.Common.{ℕ, zero, suc, ◌-◌, ◌≤◌, ◌≡◌, refl, ◌∙◌, sym, ap, Bool, ◌&&◌, List, [], ◌∷◌, ◌++◌, length, take, drop, replicate, eqb, arith}
use Rattle.std.proofs.lemmas.List.{length-replicate}
use Rattle.std.proofs.Math.Bool.{and_assoc}
use native.Mathlib.Nat.{le_of_suc-le-suc}
use native.Mathlib.Numerals.{unary_clauses}
use Rattle.std.specs.Cmp.Lexicographic.{pointwise}
use Rattle.std.specs.List.{list_all}
use Rattle.compared.specs.Compared.{same_words, dirt, all_dirt, AsLent, followed}

-- The comparison

abbrev is : ℕ → ℕ → Bool
is rest w = eqb w rest

one_word : (s : List ℕ) (rest : ℕ) → same_words s (replicate (length s) rest) ≡ list_all (is rest) s
one_word [] rest = refl
one_word (w ∷ s) rest = ap (λ b. eqb w rest && b) (one_word s rest)

pub parted : (s ws : List ℕ) (rest : ℕ) → same_words s (followed ws rest (length s)) ≡ (pointwise eqb (take (length ws) s) ws && list_all (is rest) (drop (length ws) s))
parted s [] rest = simp unary_clauses (one_word s rest)
parted [] (w ∷ ws) rest = refl
parted (v ∷ s) (w ∷ ws) rest =
    let less : length (v ∷ s) - length (w ∷ ws) ≡ length s - length ws = omega arith in
    ap (λ n. eqb v w && same_words s (ws ++ replicate n rest)) less
    ∙ ap (λ b. eqb v w && b) (parted s ws rest)
    ∙ sym (and_assoc (eqb v w) _ _)

-- Arrays that are lent

taken-lent : (n m : ℕ) → n ≤ m → take n (all_dirt m) ≡ all_dirt n
unfolding all_dirt
taken-lent zero m h = refl
taken-lent (suc n) zero h = absurd (omega arith)
taken-lent (suc n) (suc m) h = ap (λ l. dirt ∷ l) (taken-lent n m (le_of_suc-le-suc h))

pub lent-long : (n : ℕ) → length (all_dirt n) ≡ n
unfolding all_dirt
lent-long n = length-replicate n dirt

-- the part of n words of an array of m lent words
pub part-lent : (n m : ℕ) (ws : List ℕ) → n ≤ m → AsLent m ws → take n ws ≡ all_dirt n
part-lent n m ws h l = ap (take n) l.words ∙ taken-lent n m h

pub part-long : (n m : ℕ) (ws : List ℕ) → n ≤ m → AsLent m ws → n ≡ length (take n ws)
part-long n m ws h l = sym (lent-long n) ∙ ap length (sym (part-lent n m ws h l))
