-- Largest exponents, and what they bound.
--
--   exponents_of_lem               a profile's exponents are the largest of its polynomial
--   exponents_most, exponents_small, word_small, words_small   bounds of valid slices
--   every_letter                   a bound of the four letters' exponents bounds all
--   letters_fit, smaller-fits      a monomial fits whose letters do, and one whose exponents are not above those of one that fits
--   maxima-exponent, maxima-fits   the largest exponents as one monomial; of a valid slice it fits
--   under_maxima-fits              a product fits where the one with the largest exponents does
--   maxima_of                      the exponents of a profile are the maxima
use Prim.Native.Nat.{ℕ, ◌/◌, ◌^◌, ◌≤◌, ◌<◌, zero, suc}
use mathlib.Core.Path.{◌≡◌, refl, ◌∙◌, ap}
use mathlib.Core.Bool.{true}
use mathlib.Core.List.{List}
use native.Mathlib.Decide.{dec_lt}
use native.Mathlib.Omega.{arith}
use lib.ListN.{get_or}
use Rattle.algebra.specs.Monomials.{Letters, exponent}
use Rattle.algebra.specs.Orders.{exponent_adds}
use Rattle.algebra.specs.Polynomials.{Poly, largest}
use Rattle.algebra.proofs.All.{all_map}
use Rattle.algebra.proofs.Degrees.{largest_most}
use Rattle.monomial.specs.Layout.{base, is_monomial}
use Rattle.monomial.proofs.Fields.{fits_letters, exponent-none}
use Rattle.monomial.proofs.Laws.{read, fit, monomial_fits}
use Rattle.poly.specs.Words.{records, word_at, poly_of}
use Rattle.poly.specs.Valid.{Valid}
use Rattle.poly.specs.Profiles.{measure_of, maxima}
use Rattle.poly.specs.declared.profile.Profile.{Profile}
use Rattle.poly.proofs.Readings.{measure-exponents, valid_fits}

pub exponents_of_lem : (s : List ℕ) {m : Profile} →
    m ≡ measure_of s → (v : ℕ) → v < 4 → get_or m.exponents v 0 ≡ largest (exponent 4 v) (poly_of base s)
exponents_of_lem s e v h = ap (λ (x : Profile). get_or x.exponents v 0) e ∙ measure-exponents s v h

pub exponents_most : (p : ℕ) (s : List ℕ) → Valid p s → (v : ℕ) → largest (exponent 4 v) (poly_of base s) ≤ 32767
exponents_most p s h v =
    largest_most (exponent 4 v) 32767 (poly_of base s) (all_map (λ m f. (fits_letters 16 4 m).0 f v) (poly_of base s) (valid_fits p s h))

pub exponents_small : (p : ℕ) (s : List ℕ) → Valid p s → (v : ℕ) → largest (exponent 4 v) (poly_of base s) < 2 ^ 16
exponents_small p s h v = omega (arith, exponents_most p s h v)

pub word_small : (m : ℕ) → is_monomial base m ≡ true → m < 2 ^ 63
word_small m h =
    let top : m / 2 ^ 48 ≤ 32767 = (fits_letters 16 4 (read base m)).0 (monomial_fits base m h) 0 in
    omega arith

pub words_small : (p : ℕ) (s : List ℕ) → Valid p s → (i : ℕ) → i < records s → word_at s i < 2 ^ 63
words_small p s v i h = word_small (word_at s i) (v.monomials i h)

pub every_letter : (m : (Letters 4).Mon) (bound : ℕ → ℕ) → ((v : ℕ) → v < 4 → exponent 4 v m ≤ bound v) → (v : ℕ) → exponent 4 v m ≤ bound v
every_letter m bound h v = elim (dec_lt v 4) [ yes l ↦ h v l | no l ↦ omega (arith, exponent-none 16 4 v m (omega arith)) ]

pub letters_fit : (m : (Letters 4).Mon) → ((v : ℕ) → v < 4 → exponent 4 v m ≤ 32767) → fit base m ≡ true
letters_fit m h = (fits_letters 16 4 m).1 (every_letter m (λ v. 32767) h)

pub smaller-fits : (m n : (Letters 4).Mon) → ((v : ℕ) → v < 4 → exponent 4 v m ≤ exponent 4 v n) → fit base n ≡ true → fit base m ≡ true
smaller-fits m n h f = letters_fit m (λ v l. omega (arith, h v l, (fits_letters 16 4 n).0 f v))

pub maxima-exponent : (f : Poly (Letters 4)) (v : ℕ) → v < 4 → exponent 4 v (maxima f) ≡ largest (exponent 4 v) f
maxima-exponent f zero h = refl
maxima-exponent f (suc zero) h = refl
maxima-exponent f (suc (suc zero)) h = refl
maxima-exponent f (suc (suc (suc zero))) h = refl
maxima-exponent f (suc (suc (suc (suc v)))) h = absurd (omega arith)

pub maxima-fits : (p : ℕ) (s : List ℕ) → Valid p s → fit base (maxima (poly_of base s)) ≡ true
maxima-fits p s h =
    letters_fit (maxima (poly_of base s)) (λ v l. omega (arith, maxima-exponent (poly_of base s) v l, exponents_most p s h v))

pub under_maxima-fits : (a b : (Letters 4).Mon) (g : Poly (Letters 4)) →
    ((v : ℕ) → exponent 4 v b ≤ largest (exponent 4 v) g) → fit base ((Letters 4).mul a (maxima g)) ≡ true → fit base ((Letters 4).mul a b) ≡ true
under_maxima-fits a b g under =
    smaller-fits ((Letters 4).mul a b) ((Letters 4).mul a (maxima g))
    (λ v l. omega (arith, exponent_adds 4 v a b, exponent_adds 4 v a (maxima g), maxima-exponent g v l, under v))

pub maxima_of : (s : List ℕ) (m : Profile) → m ≡ measure_of s →
    ◌≡◌ {A = (Letters 4).Mon} (get_or m.exponents 0 0, (get_or m.exponents 1 0, (get_or m.exponents 2 0, (get_or m.exponents 3 0, tt)))) (maxima (poly_of base s))
maxima_of s m e =
    let x = exponents_of_lem s e in
    λ d. (x 0 (omega arith) d, (x 1 (omega arith) d, (x 2 (omega arith) d, (x 3 (omega arith) d, tt))))
