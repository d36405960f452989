-- A polynomial in memory: records of two words, the monomial word and then the coefficient word.
--
--   records s          how many whole records a slice has
--   word_at s i        the monomial word of record i
--   coef_at s i        the coefficient word of record i
--   term_at l s i      the term that record i is, in the layout l
--   terms l s i n      the n terms from record i on
--   span s i n         the same n records with the words themselves for monomials: what the engine computes with
--   Monomial f         every word of a polynomial on words is a monomial
--   decoded_poly l f   a polynomial on words, with the exponents of each word in its place
--   poly_of l s        the polynomial that a slice is
--   words_of l f       the words of a polynomial
--   filled n ws        the words ws, then zero words up to a length of n
--   cleared s          as many zero words as s has
use Rattle.std.specs.Prelude.{ℕ, zero, suc, ◌+◌, ◌-◌, ◌*◌, ◌/◌, ◌≡◌, true, List, [], ◌∷◌, ◌++◌, length, get_or, replicate}
use Rattle.algebra.specs.Monomials.{Letters, Numbers}
use Rattle.algebra.specs.Polynomials.{Term, term, Poly, All}
use Rattle.monomial.specs.Layout.{Layout, base, is_monomial, exponents_of, word_of}

abbrev pub records : List ℕ → ℕ
records s = length s / 2

abbrev pub word_at : List ℕ → ℕ → ℕ
word_at s i = get_or s (2 * i) 0

abbrev pub coef_at : List ℕ → ℕ → ℕ
coef_at s i = get_or s (2 * i + 1) 0

abbrev pub term_at : (l : Layout) → List ℕ → ℕ → Term (Letters l.count)
term_at l s i = term (exponents_of l.width l.count (word_at s i)) (coef_at s i)

abbrev pub terms : (l : Layout) → List ℕ → ℕ → ℕ → Poly (Letters l.count)
terms l s i zero = []
terms l s i (suc n) = term_at l s i ∷ terms l s (suc i) n

-- the same records with the monomial words as they stand: words are monomials of their own, multiplied by adding them
abbrev pub span : List ℕ → ℕ → ℕ → Poly Numbers
span s i zero = []
span s i (suc n) = term (word_at s i) (coef_at s i) ∷ span s (suc i) n

-- every monomial is a monomial word
abbrev pub Monomial : Poly Numbers → Type 0
Monomial f = All {K = Numbers} (λ m. is_monomial base m ≡ true) f

-- a polynomial on words, the exponents of each word in its place
abbrev pub decoded_poly : (l : Layout) → Poly Numbers → Poly (Letters l.count)
decoded_poly l [] = []
decoded_poly l (u ∷ f) = term (exponents_of l.width l.count u.mon) u.num ∷ decoded_poly l f

unfoldable pub poly_of : (l : Layout) → List ℕ → Poly (Letters l.count)
poly_of l s = terms l s 0 (records s)

abbrev pub words_of : (l : Layout) → Poly (Letters l.count) → List ℕ
words_of l [] = []
words_of l (u ∷ f) = word_of l.width l.count u.mon ∷ u.num ∷ words_of l f

abbrev pub filled : ℕ → List ℕ → List ℕ
filled n ws = ws ++ replicate (n - length ws) 0

abbrev pub cleared : List ℕ → List ℕ
cleared s = replicate (length s) 0
