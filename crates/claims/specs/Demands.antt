-- What the three demands speak of.
--
--   Answered            a call may be made with these arguments, and has one outcome
--   Afterwards n s s'   what the table of replies says of words s that were lent for writing and are s' after the refusal n
--   Single n p good     the reply n of a single field operation: 1 first, then 6
--   Ring p              the polynomials in four letters over the integers modulo p are a commutative ring: f ++ g is the sum, mul the
--                       product, negated the negative, [] zero, and equality is that of all coefficients modulo p
--   front n s           the polynomial of the first n terms of a slice
--   Result p f h        f is the polynomial h, written in falling lexicographic order with coefficients 1 to p − 1
--   Combined            all that is claimed of a call that puts the normal form of h, the sum or the difference of a and b, into a room
--   lead g              the lead monomial of a slice
--   Pair p f g m q r    f = q·g + r, and no term of r is divisible by the monomial m
--   Factor p f g h      h times g is f
--   term_count p h      how many terms the polynomial h has
use Rattle.std.specs.Prelude.{ℕ, ◌*◌, ◌<◌, ◌≤◌, ◌≡◌, Bool, true, false, List, [], ◌∷◌, ◌++◌, ◌⊎◌, ◌↔◌, length, take}
use Rattle.algebra.specs.Residues.{Prime}
use Rattle.algebra.specs.Monomials.{Letters}
use Rattle.algebra.specs.Orders.{Lex}
use Rattle.algebra.specs.Polynomials.{term, Poly, Equal, mul, negated, norm, NoMultiple, Normal}
use Rattle.moduli.specs.Moduli.{limit, is_modulus}
use Rattle.monomial.specs.Layout.{base}
use Rattle.poly.specs.Words.{records, term_at, poly_of, words_of, filled, cleared}
use Rattle.poly.specs.Valid.{Valid}
use Rattle.refusals.specs.Reports.{none, refusal, done, first_or, FirstDue}
use Rattle.refusals.specs.declared.report.Report.{Report}
use Rattle.calls.specs.Inputs.{two_inputs}

-- Answers

-- `seen` is all of an outcome that a caller can see: the answer, and the words lent for writing
pub record Answered {R S O : Type 0} (asked : Type 0) (allowed : R → S → Type 0) (seen : R → S → O) : Type 0 where
  pub any : asked
  pub one : (r r' : R) (s s' : S) → allowed r s → allowed r' s' → seen r s ≡ seen r' s'

pub record Afterwards (n : ℕ) (s s' : List ℕ) : Type 0 where
  pub unchanged : 0 < n → n ≤ 8 → s' ≡ s
  pub zero : 8 < n → s' ≡ cleared s

-- of an operation on numbers modulo p, whose operands are good or not
pub record Single (n p : ℕ) (good : Bool) : Type 0 where
  pub one : (n ≡ 1) ↔ (is_modulus p ≡ false)
  pub six : (n ≡ 6) ↔ ((is_modulus p ≡ true) × (good ≡ false))
  pub done : (n ≡ 0) ↔ ((is_modulus p ≡ true) × (good ≡ true))

-- Polynomials

abbrev pub P : Type 0
P = Poly (Letters 4)

pub record Ring (p : ℕ) : Type 0 where
  pub same : (f : P) → Equal p f f
  pub back : (f g : P) → Equal p f g → Equal p g f
  pub on : (f g h : P) → Equal p f g → Equal p g h → Equal p f h
  pub sum_same : (f f' g g' : P) → Equal p f f' → Equal p g g' → Equal p (f ++ g) (f' ++ g')
  pub sum_assoc : (f g h : P) → Equal p ((f ++ g) ++ h) (f ++ (g ++ h))
  pub sum_comm : (f g : P) → Equal p (f ++ g) (g ++ f)
  pub sum_zero : (f : P) → Equal p (f ++ []) f
  pub sum_negated : (f : P) → Equal p (f ++ negated p f) []
  pub mul_same : (f f' g g' : P) → Equal p f f' → Equal p g g' → Equal p (mul f g) (mul f' g')
  pub mul_assoc : (f g h : P) → Equal p (mul (mul f g) h) (mul f (mul g h))
  pub mul_comm : (f g : P) → Equal p (mul f g) (mul g f)
  pub mul_one : (f : P) → Equal p (mul (term (Letters 4).one 1 ∷ []) f) f
  pub mul_sum : (f g h : P) → Equal p (mul f (g ++ h)) (mul f g ++ mul f h)

abbrev pub front : ℕ → List ℕ → P
front n s = poly_of base (take (2 * n) s)

pub record Result (p : ℕ) (f h : P) : Type 0 where
  pub equal : Equal p f h
  pub normal : Normal (Lex 4) p f

-- Here t is the report, and room' the room afterwards. 1 to 8 exactly when they are the first due; 10 exactly when none is and the true
-- result, after cancellation, has more terms than the room; 0 else.
pub record Combined (p : ℕ) (a b : List ℕ) (h : P) (room : List ℕ) (t : Report) (room' : List ℕ) : Type 0 where
  pub refuses : (n : Report) → 0 < n.number → n.number ≤ 8 → (t ≡ n) ↔ FirstDue (two_inputs p a b room) n
  pub full : (t.number ≡ 10) ↔ (((first_or (two_inputs p a b room) none).number ≡ 0) × (records room < length (norm (Lex 4) p h)))
  pub fits : (t.number ≡ 0) ↔ (((first_or (two_inputs p a b room) none).number ≡ 0) × (length (norm (Lex 4) p h) ≤ records room))
  pub good : (t.number ≡ 0) ⊎ (8 < t.number) → Prime p × (p ≤ limit) × Valid p a × Valid p b
  pub refused : Afterwards t.number room room'
  pub stopped : 8 < t.number → (t.number ≡ 10) × (t ≡ refusal t.number 0 0)
  pub written : t.number ≡ 0 → (t ≡ done (length (norm (Lex 4) p h)) 0) × (room' ≡ filled (length room) (words_of base (norm (Lex 4) p h)))
  pub result : t.number ≡ 0 → Result p (front t.first room') h
  pub count : t.number ≡ 0 → (k : P) → Normal (Lex 4) p k → Equal p k h → t.first ≡ length k

-- Division

abbrev pub lead : List ℕ → (Letters 4).Mon
lead g = (term_at base g 0).mon

pub record Pair (p : ℕ) (f g : P) (m : (Letters 4).Mon) (q r : P) : Type 0 where
  pub equation : Equal p f (mul q g ++ r)
  pub none : NoMultiple p m r

abbrev pub Factor : ℕ → P → P → P → Type 0
Factor p f g h = Equal p f (mul h g)

abbrev pub term_count : ℕ → P → ℕ
term_count p h = length (norm (Lex 4) p h)
