-- The layout of a monomial word: fields side by side, one exponent in each, the first letter's at the top.
--
--   Layout                  the number of fields, and the bits of each, the top one a guard bit
--   base                    four fields of sixteen bits, for x, y, z and t
--   largest_exponent w      the largest exponent of a field of w bits: every bit set but the guard bit
--   exponents_of w k word   the exponents in the word's k fields of w bits
--   word_of w k m           the word with the exponents of m in its k fields of w bits
--   fits w k m              no exponent of m is over the largest
--   is_monomial l word      the word has no bit outside the layout's fields, and no guard bit is set
--   exponent_of l word v    the exponent of letter v (0 the first) in the word
--   divides k m n           each exponent of m is at most n's
--   over k n m              the exponents of n less those of m
--   word_divides l m n      both words are monomials, and the first divides the second
use Rattle.std.specs.Prelude.{ℕ, zero, suc, ◌+◌, ◌-◌, ◌*◌, ◌/◌, ◌%◌, ◌^◌, Bool, true, ◌&&◌, leb, ltb}
use Rattle.algebra.specs.Monomials.{Letters, exponent}

pub record Layout : Type 0 where
  pub count : ℕ
  pub width : ℕ

abbrev pub base : Layout
base = record { count = 4; width = 16 }

-- 32,767 for the sixteen bits of the base
abbrev pub largest_exponent : ℕ → ℕ
largest_exponent w = 2 ^ (w - 1) - 1

-- the top field, then the fields below it
abbrev pub exponents_of : (w k : ℕ) → ℕ → (Letters k).Mon
exponents_of w zero word = tt
exponents_of w (suc k) word = (word / 2 ^ (w * k), exponents_of w k (word % 2 ^ (w * k)))

abbrev pub word_of : (w k : ℕ) → (Letters k).Mon → ℕ
word_of w zero m = 0
word_of w (suc k) m = m.0 * 2 ^ (w * k) + word_of w k m.1

abbrev pub fits : (w k : ℕ) → (Letters k).Mon → Bool
fits w zero m = true
fits w (suc k) m = leb m.0 (largest_exponent w) && fits w k m.1

unfoldable pub is_monomial : Layout → ℕ → Bool
is_monomial l word = ltb word (2 ^ (l.width * l.count)) && fits l.width l.count (exponents_of l.width l.count word)

-- of a word with guard bits set, the whole field, its guard bit too; 0 for a letter that the layout does not have
abbrev pub exponent_of : Layout → ℕ → ℕ → ℕ
exponent_of l word v = exponent l.count v (exponents_of l.width l.count word)

abbrev pub divides : (k : ℕ) → (Letters k).Mon → (Letters k).Mon → Bool
divides zero m n = true
divides (suc k) m n = leb m.0 n.0 && divides k m.1 n.1

abbrev pub over : (k : ℕ) → (Letters k).Mon → (Letters k).Mon → (Letters k).Mon
over zero n m = tt
over (suc k) n m = (n.0 - m.0, over k n.1 m.1)

unfoldable pub word_divides : Layout → ℕ → ℕ → Bool
word_divides l m n =
    is_monomial l m && is_monomial l n
    && divides l.count (exponents_of l.width l.count m) (exponents_of l.width l.count n)
