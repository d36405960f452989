-- Orders of monomials that agree with multiplication.
--
--   Tri A B C                  one of three cases, each with its proof
--   Order K                    an order of the monomials of K: a strict order that decides between any two, and that multiplication keeps
--   Rising                     whole numbers by size
--   Lex k                      monomials in k letters in lexicographic order, the first letter first
--   Weight K                   a number for each monomial that adds up under multiplication
--   exponents k v, degrees k   the weights: the exponent of letter v, and the sum of the exponents
--   Weighted O w               by the weight w, and by O where two weights are equal
use Rattle.std.specs.Prelude.{ℕ, zero, suc, ◌+◌, ◌<◌, ◌≡◌, refl, ◌⊎◌}
use Rattle.std.proofs.Common.{sym, ◌∙◌, ap, inl, inr, lt_irrefl, lt_trans, arith}
use Rattle.std.proofs.Math.Decide.{dec_lt}
use Rattle.algebra.specs.Monomials.{Monomials, Numbers, constant, with_letter, Letters, exponent, degree}

pub data Tri (A B C : Type 0) : Type 0 where
  below : A → Tri A B C
  level : B → Tri A B C
  above : C → Tri A B C

pub record Order (K : Monomials) : Type 1 where
  pub less : K.Mon → K.Mon → Type 0
  pub irreflexive : (a : K.Mon) → less a a → ⊥
  pub transitive : (a b c : K.Mon) → less a b → less b c → less a c
  pub compare : (a b : K.Mon) → Tri (less a b) (a ≡ b) (less b a)
  pub grows : (c a b : K.Mon) → less a b → less (K.mul c a) (K.mul c b)

-- The whole numbers by size

abbrev pub number_compare : (a b : ℕ) → Dec (a < b) → Dec (b < a) → Tri (a < b) (a ≡ b) (b < a)
number_compare a b (yes h) e = below h
number_compare a b (no n) (yes h) = above h
number_compare a b (no n) (no m) = level (omega arith)

abbrev pub compare_numbers : (a b : ℕ) → Tri (a < b) (a ≡ b) (b < a)
compare_numbers a b = number_compare a b (dec_lt a b) (dec_lt b a)

abbrev pub Rising : Order Numbers
Rising =
    record {
      less = ◌<◌;
      irreflexive = lt_irrefl;
      transitive = λ a b c. lt_trans;
      compare = compare_numbers;
      grows = λ c a b h. omega arith;
    }

-- By a number first, and by a given relation where the numbers are equal

abbrev pub Then : ℕ → ℕ → Type 0 → Type 0
Then x y R = (x < y) ⊎ ((x ≡ y) × R)

abbrev pub then_compare : {R S E : Type 0} (x y : ℕ) → Tri (x < y) (x ≡ y) (y < x) → Tri R E S → Tri (Then x y R) ((x ≡ y) × E) (Then y x S)
then_compare x y (below h) t = below (inl h)
then_compare x y (above h) t = above (inl h)
then_compare x y (level e) (below r) = below (inr (e, r))
then_compare x y (level e) (level r) = level (e, r)
then_compare x y (level e) (above r) = above (inr (sym e, r))

pub then_irreflexive : {R : Type 0} (x : ℕ) → (R → ⊥) → Then x x R → ⊥
then_irreflexive x n (inl h) = lt_irrefl x h
then_irreflexive x n (inr r) = n r.1

pub then_transitive : {R S T : Type 0} (x y z : ℕ) → (R → S → T) → Then x y R → Then y z S → Then x z T
then_transitive x y z f (inl h) (inl k) = inl (lt_trans h k)
then_transitive x y z f (inl h) (inr k) = inl (let e : y ≡ z = k.0 in omega arith)
then_transitive x y z f (inr h) (inl k) = inl (let e : x ≡ y = h.0 in omega arith)
then_transitive x y z f (inr h) (inr k) = inr (h.0 ∙ k.0, f h.1 k.1)

pub then_grows : {R S : Type 0} (z x y : ℕ) → (R → S) → Then x y R → Then (z + x) (z + y) S
then_grows z x y f (inl h) = inl (omega arith)
then_grows z x y f (inr h) = inr (ap (λ n. z + n) h.0, f h.1)

-- Lexicographic order

abbrev pub constant_order : Order constant
constant_order =
    record {
      less = λ a b. ⊥;
      irreflexive = λ a h. h;
      transitive = λ a b c h k. h;
      compare = λ a b. level refl;
      grows = λ c a b h. h;
    }

abbrev pub pair_compare : {R S : Type 0} {A : Type 0} (a b : ℕ × A) → Tri R ((a.0 ≡ b.0) × (a.1 ≡ b.1)) S → Tri R (a ≡ b) S
pair_compare a b (below h) = below h
pair_compare a b (level e) = level (λ i. (e.0 i, e.1 i))
pair_compare a b (above h) = above h

-- by the exponent of the letter in front, then by O
abbrev pub letter_first : {K : Monomials} → Order K → Order (with_letter K)
letter_first {K} O =
    record {
      less = λ a b. Then a.0 b.0 (O.less a.1 b.1);
      irreflexive = λ a. then_irreflexive a.0 (O.irreflexive a.1);
      transitive = λ a b c. then_transitive a.0 b.0 c.0 (O.transitive a.1 b.1 c.1);
      compare = λ a b. pair_compare a b (then_compare a.0 b.0 (compare_numbers a.0 b.0) (O.compare a.1 b.1));
      grows = λ c a b. then_grows c.0 a.0 b.0 (O.grows c.1 a.1 b.1);
    }

abbrev pub Lex : (k : ℕ) → Order (Letters k)
Lex zero = constant_order
Lex (suc k) = letter_first (Lex k)

-- A weight in front of an order

pub record Weight (K : Monomials) : Type 0 where
  pub weigh : K.Mon → ℕ
  pub adds : (a b : K.Mon) → weigh (K.mul a b) ≡ weigh a + weigh b

abbrev pub second_compare : {R S E F : Type 0} → Tri R (F × E) S → Tri R E S
second_compare (below h) = below h
second_compare (level e) = level e.1
second_compare (above h) = above h

pub weighted_grows : {R S : Type 0} (z x y x' y' : ℕ) → x' ≡ z + x → y' ≡ z + y → (R → S) → Then x y R → Then x' y' S
weighted_grows z x y x' y' ex ey f (inl h) = inl (omega arith)
weighted_grows z x y x' y' ex ey f (inr h) = let e : x ≡ y = h.0 in inr (omega arith, f h.1)

abbrev pub Weighted : {K : Monomials} → Order K → Weight K → Order K
Weighted {K} O w =
    record {
      less = λ a b. Then (w.weigh a) (w.weigh b) (O.less a b);
      irreflexive = λ a. then_irreflexive (w.weigh a) (O.irreflexive a);
      transitive = λ a b c. then_transitive (w.weigh a) (w.weigh b) (w.weigh c) (O.transitive a b c);
      compare = λ a b. second_compare (then_compare (w.weigh a) (w.weigh b) (compare_numbers (w.weigh a) (w.weigh b)) (O.compare a b));
      grows = λ c a b. weighted_grows (w.weigh c) (w.weigh a) (w.weigh b) _ _ (w.adds c a) (w.adds c b) (O.grows c a b);
    }

-- the exponent of one letter, and the sum of all exponents, add up

pub exponent_adds : (k v : ℕ) (a b : (Letters k).Mon) → exponent k v ((Letters k).mul a b) ≡ exponent k v a + exponent k v b
exponent_adds zero v a b = refl
exponent_adds (suc k) zero a b = refl
exponent_adds (suc k) (suc v) a b = exponent_adds k v a.1 b.1

pub degree_adds : (k : ℕ) (a b : (Letters k).Mon) → degree k ((Letters k).mul a b) ≡ degree k a + degree k b
degree_adds zero a b = refl
degree_adds (suc k) a b = omega (arith, degree_adds k a.1 b.1)

abbrev pub exponents : (k v : ℕ) → Weight (Letters k)
exponents k v = record { weigh = exponent k v; adds = exponent_adds k v }

abbrev pub degrees : (k : ℕ) → Weight (Letters k)
degrees k = record { weigh = degree k; adds = degree_adds k }
