-- What 9, 10, 11 and 12 of division and of the divide test mean: where a walk stands, and why its next term gives the reply.
--
--   Over m b               some exponent of m is over that letter's bound in b
--   StoppedAt p f g w      f is quotient · g + remainder + what is left, whose greatest term is told
--   QuotientBursts m g     an exponent of m plus M(g, v) is over the largest exponent
--   Exceeds m g f          an exponent of m plus M(g, v) is over M(f, v)
--   DivisionDue, TestDue   the reply that is due at a term
use Rattle.std.specs.Prelude.{ℕ, ◌<◌, ◌≤◌, ◌≡◌, ◌∷◌, ◌++◌, ◌⊎◌}
use Rattle.algebra.specs.Monomials.{Letters, exponent}
use Rattle.algebra.specs.Orders.{Lex}
use Rattle.algebra.specs.Polynomials.{Term, Poly, Equal, mul, largest, Falling}
use Rattle.algebra.specs.Walk.{Walked}
use Rattle.poly.specs.Profiles.{maxima}

pub record Over (m : (Letters 4).Mon) (b : ℕ → ℕ) : Type 0 where
  pub letter : ℕ
  pub one_of_four : letter < 4
  pub over : b letter < exponent 4 letter m

-- what was written so far, what is left, and its greatest term
pub record StoppedAt (p : ℕ) (f g : Poly (Letters 4)) (w : Walked (Letters 4)) : Type 0 where
  pub at : Term (Letters 4)
  pub below : Poly (Letters 4)
  pub equation : Equal p f (mul w.quotient g ++ (w.remainder ++ at ∷ below))
  pub falling : Falling (Lex 4) (at ∷ below)
  pub nonzero : 0 < at.num

-- the exponents of m times g's maxima, over the largest exponent or over M(f, v)
abbrev pub QuotientBursts : (Letters 4).Mon → Poly (Letters 4) → Type 0
QuotientBursts m g = Over ((Letters 4).mul m (maxima g)) (λ v. 32767)

abbrev pub Exceeds : (Letters 4).Mon → Poly (Letters 4) → Poly (Letters 4) → Type 0
Exceeds m g f = Over ((Letters 4).mul m (maxima g)) (λ v. largest (exponent 4 v) f)

-- The term `at` is the greatest of what is left, i quotient and j remainder terms are written, and the reply n is due: 9 where its
-- quotient's exponents burst, else 10 where the quotient room is full, or 11 where it goes to the remainder and that room is full.
abbrev pub DivisionDue : Poly (Letters 4) → (Letters 4).Mon → ℕ → ℕ → ℕ → ℕ → (Letters 4).Mon → ℕ → Type 0
DivisionDue g lead q r i j at n =
    ((n ≡ 9) × (m : (Letters 4).Mon) × ((Letters 4).mul lead m ≡ at) × QuotientBursts m g)
    ⊎ (((n ≡ 10) × (m : (Letters 4).Mon) × ((Letters 4).mul lead m ≡ at) × (QuotientBursts m g → ⊥) × (q ≤ i))
    ⊎ ((n ≡ 11) × ((m : (Letters 4).Mon) → (Letters 4).mul lead m ≡ at → ⊥) × (r ≤ j)))

-- The same of the divide test: 12 where the quotient's exponents exceed M(f, v), else 10 where the room is full, or 12 where the
-- lead does not divide.
abbrev pub TestDue : Poly (Letters 4) → Poly (Letters 4) → (Letters 4).Mon → ℕ → ℕ → (Letters 4).Mon → ℕ → Type 0
TestDue f g lead q i at n =
    ((n ≡ 12) × (m : (Letters 4).Mon) × ((Letters 4).mul lead m ≡ at) × Exceeds m g f)
    ⊎ (((n ≡ 10) × (m : (Letters 4).Mon) × ((Letters 4).mul lead m ≡ at) × (Exceeds m g f → ⊥) × (q ≤ i))
    ⊎ ((n ≡ 12) × ((m : (Letters 4).Mon) → (Letters 4).mul lead m ≡ at → ⊥)))
