-- What each call answers: a number, 0 for done, and a value.
--
--   pack_of l m              packing the exponents of m: 4 where one is over the largest
--   listed k m               the k exponents of m as a list
--   unpack_of l word         the exponents of a word: 4, and zeros, where a guard bit is set
--   word_product_of l m n    the product of two words: 9 where an exponent of it is over the largest
--   word_quotient_of l n m   the quotient of two words: 12 where m does not divide n
--
-- Functions that answer a result promise its number and its value: `value_of` of field/specs/Answers, and for exponents
--
--   exponents_answer r       the number and the exponents of each case
use Rattle.std.specs.Prelude.{ℕ, zero, suc, List, [], ◌∷◌, Result, Ok, Err, replicate}
use Rattle.algebra.specs.Monomials.{Letters}
use Rattle.algebra.specs.Residues.{pick}
use Rattle.reasons.specs.Reasons.{number_of}
use Rattle.reasons.specs.declared.Reason.{Reason}
use Rattle.field.specs.declared.Value.{Value}
use Rattle.field.specs.Answers.{value, no_value}
use Rattle.monomial.specs.Layout.{Layout, exponents_of, word_of, fits, is_monomial, over, word_divides}
use Rattle.monomial.specs.declared.Exponents.{Exponents}

abbrev pub pack_of : (l : Layout) → (Letters l.count).Mon → Value
pack_of l m = pick (fits l.width l.count m) (value (word_of l.width l.count m)) (no_value 4)

-- from the first letter's on
abbrev pub listed : (k : ℕ) → (Letters k).Mon → List ℕ
listed zero m = []
listed (suc k) m = m.0 ∷ listed k m.1

-- all exponents of the monomial 1 are 0
abbrev pub unpack_of : Layout → ℕ → Exponents
unpack_of l word =
    pick (is_monomial l word)
    (record { number = 0; exponents = listed l.count (exponents_of l.width l.count word) })
    (record { number = 4; exponents = listed l.count (Letters l.count).one })

-- four zeros beside a refusal
abbrev pub exponents_answer : Result (List ℕ) Reason → Exponents
exponents_answer (Ok es) = record { number = 0; exponents = es }
exponents_answer (Err reason) = record { number = number_of reason; exponents = replicate 4 0 }

-- A field with its guard bit set counts as an exponent over the largest, so a word that is no monomial has no product.
abbrev pub word_product_of : Layout → ℕ → ℕ → Value
word_product_of l m n =
    let product = (Letters l.count).mul (exponents_of l.width l.count m) (exponents_of l.width l.count n) in
    pick (fits l.width l.count product) (value (word_of l.width l.count product)) (no_value 9)

-- a word that is no monomial has no quotient
abbrev pub word_quotient_of : Layout → ℕ → ℕ → Value
word_quotient_of l n m =
    let quotient = over l.count (exponents_of l.width l.count n) (exponents_of l.width l.count m) in
    pick (word_divides l m n) (value (word_of l.width l.count quotient)) (no_value 12)
