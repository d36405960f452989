-- The examples of RULES Sheet: its rows marked [P], each a call, what it is lent, and what it has to leave behind.
--
--   c x^ i, c x^ i y^ j    the terms c · x^i and c · x^i · y^j; a number −c is p − c
--   words f                the words of a polynomial
--   dirty n                n words, none of them 0: what an array may hold when it is lent
--   zeros n                n zero words
--   report n o i a b       a report by its five numbers: number, operand, index, first count, second count
--   balance n v, minus n   an answer of the balanced value, by its number and its value; the value −n
--   Row                    a call by its name: modulus, inputs, the arrays lent, and what it has to leave
--   Holds row              what the call's contract says that it leaves, report and every word lent, is what the row says
--   right row              the same as a test that computes, by tests of words, reports and outcomes that are the same
--   AllHold, all_right     the same of every row of a list
--   a₁, b₁, .. rows        the polynomials of the sheet, and the sheet
use Rattle.std.specs.Prelude.{ℕ, zero, suc, ◌≡◌, Bool, true, false, ◌&&◌, List, [], ◌∷◌, ◌++◌, eqb, replicate, ℤ, pos, negsuc, neg_ℤ}
use Rattle.algebra.specs.Monomials.{Letters}
use Rattle.algebra.specs.Polynomials.{Term, term, Poly}
use Rattle.field.specs.declared.Balance.{Balance}
use Rattle.field.specs.Answers.{balanced_of}
use Rattle.monomial.specs.Layout.{base}
use Rattle.poly.specs.Words.{words_of}
use Rattle.refusals.specs.declared.report.Report.{Report}
use Rattle.calls.specs.Outcomes.{Outcome, outcome}
use Rattle.product.specs.Products.{product_of}
use Rattle.compared.specs.Compared.{same_outcome}
use Rattle.division.specs.Division.{divide_of, test_of}

infix 70 ◌x^◌
infix 70 ◌x^◌y^◌
-- How a row is written

abbrev pub ◌x^◌ : ℕ → ℕ → Term (Letters 4)
◌x^◌ c i = term (i, (0, (0, (0, tt)))) c

abbrev pub ◌x^◌y^◌ : ℕ → ℕ → ℕ → Term (Letters 4)
◌x^◌y^◌ c i j = term (i, (j, (0, (0, tt)))) c

abbrev pub words : Poly (Letters 4) → List ℕ
words f = words_of base f

-- n, n − 1 and so on down to 1
abbrev pub dirty : ℕ → List ℕ
dirty zero = []
dirty (suc n) = suc n ∷ dirty n

abbrev pub zeros : ℕ → List ℕ
zeros n = replicate n 0

abbrev pub report : ℕ → ℕ → ℕ → ℕ → ℕ → Report
report n o i a b = record { number = n; operand = o; index = i; first = a; second = b }

abbrev pub balance : ℕ → ℤ → Balance
balance n v = record { number = n; value = v }

-- −n
abbrev pub minus : ℕ → ℤ
minus n = neg_ℤ (pos n)

pub data Row : Type 0 where
  product : (p : ℕ) (a b room work : List ℕ) → Outcome → Row
  division : (p : ℕ) (f g q r work : List ℕ) → Outcome → Row
  divide_test : (p : ℕ) (f g q work : List ℕ) → Outcome → Row
  balanced : (p c : ℕ) → Balance → Row

-- When a row is right

abbrev pub Holds : Row → Type 0
Holds (product p a b room work leaves) = product_of p a b room work ≡ leaves
Holds (division p f g q r work leaves) = divide_of p f g q r work ≡ leaves
Holds (divide_test p f g q work leaves) = test_of p f g q work ≡ leaves
Holds (balanced p c answers) = balanced_of p c ≡ answers

abbrev pub AllHold : List Row → Type 0
AllHold [] = Unit {0}
AllHold (row ∷ rest) = Holds row × AllHold rest

-- The same as a test

abbrev pub same_number : ℤ → ℤ → Bool
same_number (pos m) (pos n) = eqb m n
same_number (pos m) (negsuc n) = false
same_number (negsuc m) (pos n) = false
same_number (negsuc m) (negsuc n) = eqb m n

abbrev pub same_balance : Balance → Balance → Bool
same_balance a b = eqb a.number b.number && same_number a.value b.value

abbrev pub right : Row → Bool
right (product p a b room work leaves) = same_outcome (product_of p a b room work) leaves
right (division p f g q r work leaves) = same_outcome (divide_of p f g q r work) leaves
right (divide_test p f g q work leaves) = same_outcome (test_of p f g q work) leaves
right (balanced p c answers) = same_balance (balanced_of p c) answers

abbrev pub all_right : List Row → Bool
all_right [] = true
all_right (row ∷ rest) = right row && all_right rest

-- The polynomials of the sheet as words, each with the number of its row: a, b and ab are factors and product; f, g, q and r are dividend,
-- divisor, quotient and remainder.

abbrev pub zero_poly : List ℕ
zero_poly = []

abbrev pub x_poly : List ℕ
x_poly = words (1 x^ 1 ∷ [])

abbrev pub a₁ : List ℕ
a₁ = words (2 x^ 4 ∷ 3 x^ 3 ∷ 4 x^ 1 ∷ [])

abbrev pub b₁ : List ℕ
b₁ = words (1 x^ 5 ∷ 5 x^ 3 ∷ 7 x^ 0 ∷ [])

abbrev pub ab₁ : List ℕ
ab₁ = words (2 x^ 9 ∷ 3 x^ 8 ∷ 10 x^ 7 ∷ 19 x^ 6 ∷ 34 x^ 4 ∷ 21 x^ 3 ∷ 28 x^ 1 ∷ [])

abbrev pub f₃ : List ℕ
f₃ = words (1 x^ 2 y^ 1 ∷ 1 x^ 1 y^ 2 ∷ 1 x^ 0 y^ 2 ∷ [])

abbrev pub g₃ : List ℕ
g₃ = words (1 x^ 1 y^ 1 ∷ 100 x^ 0 ∷ [])

-- the whole quotient room, as the sheet gives it
abbrev pub q₃ : List ℕ
q₃ = 0x0001000000000000 ∷ 1 ∷ 0x0000000100000000 ∷ 1 ∷ 0 ∷ 0 ∷ []

abbrev pub r₃ : List ℕ
r₃ = words (1 x^ 1 ∷ 1 x^ 0 y^ 2 ∷ 1 x^ 0 y^ 1 ∷ [])

abbrev pub a₄ : List ℕ
a₄ = words (1 x^ 1 ∷ 1 x^ 0 y^ 1 ∷ [])

abbrev pub b₄ : List ℕ
b₄ = words (1 x^ 1 ∷ 100 x^ 0 y^ 1 ∷ [])

abbrev pub ab₄ : List ℕ
ab₄ = words (1 x^ 2 ∷ 100 x^ 0 y^ 2 ∷ [])

abbrev pub a₅ : List ℕ
a₅ = words (1 x^ 1 ∷ 1 x^ 0 ∷ [])

abbrev pub aa₅ : List ℕ
aa₅ = words (1 x^ 2 ∷ 1 x^ 0 ∷ [])

abbrev pub a₆ : List ℕ
a₆ = words (1 x^ 16383 ∷ [])

abbrev pub b₆ : List ℕ
b₆ = words (1 x^ 16384 ∷ [])

abbrev pub ab₆ : List ℕ
ab₆ = words (1 x^ 32767 ∷ [])

abbrev pub f₇ : List ℕ
f₇ = words (1 x^ 2 ∷ [])

abbrev pub g₇ : List ℕ
g₇ = words (1 x^ 1 ∷ 100 x^ 0 y^ 20000 ∷ [])

abbrev pub f₈ : List ℕ
f₈ = words (1 x^ 3 ∷ 100 x^ 0 ∷ [])

abbrev pub g₈ : List ℕ
g₈ = words (1 x^ 1 ∷ 100 x^ 0 ∷ [])

abbrev pub q₈ : List ℕ
q₈ = words (1 x^ 2 ∷ 1 x^ 1 ∷ 1 x^ 0 ∷ [])

abbrev pub q₁₁ : List ℕ
q₁₁ = words (1 x^ 0 ∷ [])

-- A room of n terms has 2n words. Rooms and work are lent dirty, work at its least length or longer.
abbrev pub rows : List Row
rows =
    -- 1, with a room of 7 terms and with one of 6
    product 101 a₁ b₁ (dirty 14) (dirty 12) (outcome (report 0 0 0 7 0) ab₁ [] (zeros 12))
    ∷ product 101 a₁ b₁ (dirty 12) (dirty 15) (outcome (report 10 0 0 0 0) (zeros 12) [] (zeros 15))
    -- 2
    ∷ division 101 ab₁ a₁ (dirty 6) (dirty 4) (dirty 12) (outcome (report 0 0 0 3 0) b₁ (zeros 4) (zeros 12))
    -- 3
    ∷ division 101 f₃ g₃ (dirty 6) (dirty 8) (dirty 12) (outcome (report 0 0 0 2 3) q₃ (r₃ ++ zeros 2) (zeros 12))
    ∷ divide_test 101 f₃ g₃ (dirty 6) (dirty 13) (outcome (report 12 0 0 0 0) (zeros 6) [] (zeros 13))
    -- 4
    ∷ product 101 a₄ b₄ (dirty 4) (dirty 8) (outcome (report 0 0 0 2 0) ab₄ [] (zeros 8))
    -- 5
    ∷ product 2 a₅ a₅ (dirty 6) (dirty 8) (outcome (report 0 0 0 2 0) (aa₅ ++ zeros 2) [] (zeros 8))
    -- 6
    ∷ product 101 a₆ b₆ (dirty 2) (dirty 4) (outcome (report 0 0 0 1 0) ab₆ [] (zeros 4))
    ∷ product 101 ab₆ x_poly (dirty 2) (dirty 4) (outcome (report 9 0 0 0 0) (zeros 2) [] (zeros 4))
    -- 7, with a quotient room of 8 terms and with one of 1; an empty room is full at the first quotient term, so 9 is met at the second
    ∷ division 101 f₇ g₇ (dirty 16) (dirty 4) (dirty 32) (outcome (report 9 0 0 0 0) (zeros 16) (zeros 4) (zeros 32))
    ∷ division 101 f₇ g₇ (dirty 2) (dirty 4) (dirty 4) (outcome (report 9 0 0 0 0) (zeros 2) (zeros 4) (zeros 4))
    ∷ division 101 f₇ g₇ (dirty 0) (dirty 4) (dirty 0) (outcome (report 10 0 0 0 0) (zeros 0) (zeros 4) (zeros 0))
    ∷ divide_test 101 f₇ g₇ (dirty 16) (dirty 32) (outcome (report 12 0 0 0 0) (zeros 16) [] (zeros 32))
    -- 8, with a room of 3 terms and with one of 2
    ∷ division 101 f₈ g₈ (dirty 6) (dirty 2) (dirty 12) (outcome (report 0 0 0 3 0) q₈ (zeros 2) (zeros 12))
    ∷ divide_test 101 f₈ g₈ (dirty 6) (dirty 12) (outcome (report 0 0 0 3 0) q₈ [] (zeros 12))
    ∷ division 101 f₈ g₈ (dirty 4) (dirty 2) (dirty 8) (outcome (report 10 0 0 0 0) (zeros 4) (zeros 2) (zeros 8))
    ∷ divide_test 101 f₈ g₈ (dirty 4) (dirty 9) (outcome (report 10 0 0 0 0) (zeros 4) [] (zeros 9))
    -- 10; reply 7 changes no word
    ∷ division 101 zero_poly x_poly (dirty 0) (dirty 0) (dirty 0) (outcome (report 0 0 0 0 0) (zeros 0) (zeros 0) (zeros 0))
    ∷ division 101 x_poly zero_poly (dirty 2) (dirty 2) (dirty 4) (outcome (report 7 2 0 0 0) (dirty 2) (dirty 2) (dirty 4))
    -- 11
    ∷ division 101 a₁ a₁ (dirty 2) (dirty 2) (dirty 4) (outcome (report 0 0 0 1 0) q₁₁ (zeros 2) (zeros 4))
    -- 13
    ∷ balanced 101 50 (balance 0 (pos 50))
    ∷ balanced 101 51 (balance 0 (minus 50))
    ∷ balanced 101 100 (balance 0 (minus 1))
    ∷ balanced 2 1 (balance 0 (pos 1))
    ∷ []
