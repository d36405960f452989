-- Polynomials over the whole numbers modulo p: finite lists of terms, in any order, repeats allowed, numbers not reduced.
-- Two lists are the same polynomial when at every monomial their coefficients are the same modulo p.
--
--   Term K, Poly K          a number times a monomial; a list of such terms, read as their sum
--   coef f m                the coefficient of f at m: the sum of the numbers of the terms there
--   count m f               how many terms of f stand at m, whatever their numbers
--   Equal p f g             at every monomial the coefficients of f and g are the same modulo p
--   f ++ g                  the sum
--   times t f               the term t times f
--   mul f g                 the product: every term of f times every term of g
--   negated p f             −f: every number times p − 1, which is −1 modulo p
--   signed p minus f        f, or −f
--   signed_coef p minus c   the coefficient c, or −c, reduced
--   largest w f             the largest w of a monomial of f, 0 where f has no term: M(f, v) for w the exponent of v
--   sorted O p f            f with one term for each monomial that stands in it, the greatest first, numbers below p, perhaps 0
--   norm O p f              the same without the terms whose number is 0: the normal form
--   Alike p f g             equal polynomials in which the same monomials stand
--   NoMultiple p m f        no term of f is divisible by m: the coefficient of f at every multiple of m is 0 modulo p
--   Normal O p f            f is its own normal form: monomials fall, numbers are 1 to p − 1
use Rattle.std.specs.Prelude.{ℕ, zero, suc, ◌+◌, ◌-◌, ◌*◌, ◌%◌, ◌<◌, max, ◌≡◌, Bool, true, false, List, [], ◌∷◌, ◌++◌}
use Rattle.algebra.specs.Residues.{Same}
use Rattle.algebra.specs.Monomials.{Monomials}
use Rattle.algebra.specs.Orders.{Order, Tri, below, level, above}

pub record Term (K : Monomials) : Type 0 where
  pub mon : K.Mon
  pub num : ℕ

abbrev pub term : {K : Monomials} → K.Mon → ℕ → Term K
term m c = record { mon = m; num = c }

abbrev pub Poly : Monomials → Type 0
Poly K = List (Term K)

-- c where the fact holds, else 0
abbrev pub only : {A : Type 0} → Dec A → ℕ → ℕ
only (yes a) c = c
only (no n) c = 0

abbrev pub coef : {K : Monomials} → Poly K → K.Mon → ℕ
coef [] m = 0
coef {K} (u ∷ f) m = only (K.decide u.mon m) u.num + coef f m

abbrev pub count : {K : Monomials} → K.Mon → Poly K → ℕ
count m [] = 0
count {K} m (u ∷ f) = only (K.decide u.mon m) 1 + count m f

pub record Equal {K : Monomials} (p : ℕ) (f g : Poly K) : Type 0 where
  pub equal : (m : K.Mon) → Same p (coef f m) (coef g m)

pub record Alike {K : Monomials} (p : ℕ) (f g : Poly K) : Type 0 where
  pub equal : Equal p f g
  pub there : (m : K.Mon) → 0 < count m f → 0 < count m g
  pub back : (m : K.Mon) → 0 < count m g → 0 < count m f

abbrev pub times : {K : Monomials} → Term K → Poly K → Poly K
times t [] = []
times {K} t (u ∷ f) = term (K.mul t.mon u.mon) (t.num * u.num) ∷ times t f

abbrev pub mul : {K : Monomials} → Poly K → Poly K → Poly K
mul [] g = []
mul (t ∷ f) g = times t g ++ mul f g

abbrev pub negated : {K : Monomials} → ℕ → Poly K → Poly K
negated p [] = []
negated p (u ∷ f) = term u.mon ((p - 1) * u.num) ∷ negated p f

abbrev pub signed : {K : Monomials} → ℕ → Bool → Poly K → Poly K
signed p true f = negated p f
signed p false f = f

abbrev pub signed_coef : ℕ → Bool → ℕ → ℕ
signed_coef p true c = (p - c) % p
signed_coef p false c = c

abbrev pub largest : {K : Monomials} → (K.Mon → ℕ) → Poly K → ℕ
largest w [] = 0
largest w (u ∷ f) = max (w u.mon) (largest w f)

pub record NoMultiple {K : Monomials} (p : ℕ) (m : K.Mon) (f : Poly K) : Type 0 where
  pub none : (q : K.Mon) → Same p (coef f (K.mul m q)) 0

-- The normal form

-- the term at m, left out where its number is 0
abbrev pub keep : {K : Monomials} → K.Mon → ℕ → Poly K → Poly K
keep m zero f = f
keep m (suc c) f = term m (suc c) ∷ f

abbrev pub nonzero : {K : Monomials} → Poly K → Poly K
nonzero [] = []
nonzero (u ∷ f) = keep u.mon u.num (nonzero f)

module _ {K : Monomials} (O : Order K) (p : ℕ) where
  -- where c at m goes in the falling list u, then f; rest is f with c at m put in
  abbrev pub placed : (m : K.Mon) (c : ℕ) (u : Term K) (f rest : Poly K) → Tri (O.less m u.mon) (m ≡ u.mon) (O.less u.mon m) → Poly K
  placed m c u f rest (below h) = u ∷ rest
  placed m c u f rest (level e) = term m ((c + u.num) % p) ∷ f
  placed m c u f rest (above h) = term m (c % p) ∷ u ∷ f

  abbrev pub insert : K.Mon → ℕ → Poly K → Poly K
  insert m c [] = term m (c % p) ∷ []
  insert m c (u ∷ f) = let rest = insert m c f in placed m c u f rest (O.compare m u.mon)

  abbrev pub sorted : Poly K → Poly K
  sorted [] = []
  sorted (u ∷ f) = insert u.mon u.num (sorted f)

  abbrev pub norm : Poly K → Poly K
  norm f = nonzero (sorted f)

-- every monomial of f has the property P
abbrev pub All : {K : Monomials} → (K.Mon → Type 0) → Poly K → Type 0
All P [] = Unit {0}
All P (u ∷ f) = P u.mon × All P f

module _ {K : Monomials} (O : Order K) where
  -- every monomial of f is below m
  abbrev pub Below : K.Mon → Poly K → Type 0
  Below m f = All (λ n. O.less n m) f

  abbrev pub Falling : Poly K → Type 0
  Falling [] = Unit {0}
  Falling (u ∷ f) = Below u.mon f × Falling f

-- every number of f is 1 to p − 1
abbrev pub Reduced : {K : Monomials} → ℕ → Poly K → Type 0
Reduced p [] = Unit {0}
Reduced p (u ∷ f) = (0 < u.num) × (u.num < p) × Reduced p f

pub record Normal {K : Monomials} (O : Order K) (p : ℕ) (f : Poly K) : Type 0 where
  pub falling : Falling O f
  pub reduced : Reduced p f
