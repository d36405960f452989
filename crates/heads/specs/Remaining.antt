-- What remains of a dividend, and its greatest monomial: what the engine's own functions promise one another.
--
-- Quotient terms are the rows of a tree, the divisor's terms its columns, from the second on; the front of the quotient room is
-- itself the slice of rows, zero records where nothing is written yet, and grows with the quotient.
--
--   remaining p f g q w i    what remains: the dividend's terms from record i on, less the products for which the tree waits
--   Headed                   the greatest monomial was taken out of what remains
use Rattle.std.specs.Prelude.{ℕ, ◌+◌, ◌-◌, ◌<◌, ◌≤◌, max, ◌≡◌, List, ◌∷◌, ◌++◌, length}
use Rattle.algebra.specs.Monomials.{Numbers}
use Rattle.algebra.specs.Polynomials.{term, Poly, negated, Alike}
use Rattle.poly.specs.Words.{records, word_at, span}
use Rattle.tree.specs.Tree.{awaited, Live}
use Rattle.poly.specs.Keys.{key_at}

abbrev pub remaining : ℕ → List ℕ → List ℕ → List ℕ → List ℕ → ℕ → Poly Numbers
remaining p f g q w i = span f i (records f - i) ++ negated p (awaited q g w 0 (records q))

-- what remains is the monomial of key k, c times, and the remaining from record i' on, with no key as great
pub record Headed (p : ℕ) (f g q w : List ℕ) (i k : ℕ) (w' : List ℕ) (i' c : ℕ) : Type 0 where
  pub as_long : length w' ≡ length w
  pub live : Live q g w'
  pub small : c < p
  pub within : i' ≤ records f
  pub empty : (x : ℕ) → x < records q → word_at w (records q + x) ≡ 0 → word_at w' (records q + x) ≡ 0
  pub idle : records q ≡ 0 → word_at w' 1 ≡ 0
  pub alike : Alike p (remaining p f g q w i) (term (k - 1) c ∷ remaining p f g q w' i')
  pub lower : max (key_at f i') (word_at w' 1) < k
