-- Laws of the fields of a word, for any width w and any number k of fields, by induction on the fields.
--
--   Held w k m                       a field holds each exponent of m, the guard bit perhaps used
--   fits_held, product_held, exponents_held   what fits is held, the product of two that fit is, and so are a word's exponents
--   fits_letters                     what fits has no letter with an exponent over the largest
--   fits-one, over-fits, divides-fits, factor_fits   1 fits; a quotient of what fits, and what divides it, fit
--   word_bound                       the word of what is held has no bit outside the fields
--   exponents_word, word_exponents   words and exponents give each other back
--   word_one, word_mul               the word of 1 is 0, and the word of a product is the sum of the words
--   word_less                        word order is the lexicographic order of the exponents
--   exponent_field, exponent-none    one exponent by its field's place; 0 where there is no such letter
--   divides_letters                  a divides b just where each letter's exponent in a is at most that in b
--   divides-mul, over-mul, divides-quotient   a divides b just where some q times a is b, and then q is `over b a`
--   joined, joined-word              exponents shifted to their places and joined are the word
--   or_below, merged, merged-test    one test for several exponents: all bits that are set in any of them
--   either-test                      one test for the fields of two words
--   guards, guards-test              the mask of the guard bits: none is set just where all exponents fit
--   guards_cover                     a word that fits is at most the mask
--   borrow_test                      a word with its guard bits set, less another: all guard bits stay just where the other divides it
use Prim.Native.Nat.{ℕ, zero, suc, ◌+◌, ◌-◌, ◌*◌, ◌/◌, ◌%◌, ◌^◌, ◌≤◌, ◌<◌}
use mathlib.Core.Path.{◌≡◌, refl, sym, ◌∙◌, ap}
use mathlib.Core.Bool.{true, ◌&&◌, and-true}
use mathlib.Core.Logic.Iff
use mathlib.Core.Logic.{◌↔◌, inl, inr}
use native.Mathlib.Nat.{pow-suc, mul-suc, mul-zero, mod-lt, mod-eq_of_lt, mul-le-mul_right, div-lt_iff_lt-mul}
use native.Mathlib.Decide.{dec_lt, dec_le}
use native.Mathlib.Omega.{arith}
use lib.Arith.{digits_lt, digits_div, digits_mod}
use lib.Pow.{pow_pos, pow-add, high, low, split, field, mod-mod-pow, shl_exact}
use lib.Bits.{bit_and, bit_or, and_block, and_shifted, and_comm, and_zero_r, and_le_l, and_le_r, and_lt, or_add_and, or_lt, or_shr, or_mod, or_shifted}
use lib.Dec.{leb, ltb, eqb}
use borrow.Author.Tests.{leb-true, ltb-true, eqb-true, le-leb, lt-leb, lt-ltb, eq-eqb, ne_eqb}
use Rattle.algebra.specs.Monomials.{Letters, exponent}
use Rattle.algebra.specs.Orders.{below, level, above, Then, Lex, compare_numbers}
use Rattle.algebra.proofs.Tests.{both_true, both, both_swap, same_test}
use Rattle.monomial.specs.Layout.{largest_exponent, exponents_of, word_of, fits, divides, over}

-- Digits: x · b + y with y below b

digits_eqb : (b x y x' y' : ℕ) → y < b → y' < b → eqb (x * b + y) (x' * b + y') ≡ (eqb x x' && eqb y y')
digits_eqb b x y x' y' h h' = same_test _ _
    (λ e.
    let s : x * b + y ≡ x' * b + y' = eqb-true _ _ e in
    both (eq-eqb x x' (sym (digits_div x h) ∙ ap (λ n. n / b) s ∙ digits_div x' h'))
    (eq-eqb y y' (sym (digits_mod x h) ∙ ap (λ n. n % b) s ∙ digits_mod x' h')))
    (λ e.
    let t = both_true _ _ e in
    let f : x ≡ x' = eqb-true _ _ t.0 in
    let g : y ≡ y' = eqb-true _ _ t.1 in
    eq-eqb _ _ (λ i. f i * b + g i))

then_iff : {R S : Type 0} (x y : ℕ) → R ↔ S → Then x y R ↔ Then x y S
then_iff x y t = (
  λ e. elim e [ inl l ↦ inl l | inr r ↦ inr (r.0, t.0 r.1) ],
  λ e. elim e [ inl l ↦ inl l | inr r ↦ inr (r.0, t.1 r.1) ],
)

digits_less : (b x y x' y' : ℕ) → y < b → y' < b → Then x x' (y < y') ↔ (x * b + y < x' * b + y')
digits_less b x y x' y' h h' = (
  λ e. elim e [
    | inl l ↦ omega (arith, mul-le-mul_right b l)
    | inr r ↦ let f : x * b ≡ x' * b = ap (λ n. n * b) r.0 in let g : y < y' = r.1 in omega arith
  ],
  λ e. elim (compare_numbers x x') [
    | below l ↦ inl l
    | level f ↦ inr (f, omega (arith, ap (λ n. n * b) f))
    | above l ↦ absurd (omega (arith, mul-le-mul_right b l))
  ],
)

-- a difference digit by digit, with p · c + g lent first
borrowed : (c x y p r s g : ℕ) → x ≤ y + p → r ≤ s + g → y * c + s + (p * c + g) - (x * c + r) ≡ (y + p - x) * c + (s + g - r)
borrowed c x y p r s g h l =
    let e : y + p - x + x ≡ y + p = omega arith in
    omega (arith, ap (λ n. n * c) e)

-- Widths and rooms

largest-suc : (v : ℕ) → largest_exponent (suc v) + 1 ≡ 2 ^ v
largest-suc v =
    let e : suc v - 1 ≡ v = omega arith in
    omega (arith, ap (λ n. 2 ^ n) e, pow_pos v)

pub largest_twice : (w : ℕ) → largest_exponent w + largest_exponent w < 2 ^ w
largest_twice zero = omega arith
largest_twice (suc v) = omega (arith, pow-suc 2 v, largest-suc v)

largest_ltb : (v e : ℕ) → leb e (largest_exponent (suc v)) ≡ ltb e (2 ^ v)
largest_ltb v e =
    same_test (leb e (largest_exponent (suc v))) (ltb e (2 ^ v))
    (λ t. lt-ltb e (2 ^ v) (omega (arith, leb-true e (largest_exponent (suc v)) t, largest-suc v)))
    (λ t. le-leb e (largest_exponent (suc v)) (omega (arith, ltb-true e (2 ^ v) t, largest-suc v)))

room-suc : (w k : ℕ) → 2 ^ (w * suc k) ≡ 2 ^ w * 2 ^ (w * k)
room-suc w k = ap (λ n. 2 ^ n) (mul-suc w k) ∙ pow-add 2 (w * k) w ∙ omega arith

room-zero : (w : ℕ) → 2 ^ (w * 0) ≡ 1
room-zero w = ap (λ n. 2 ^ n) (mul-zero w)

module _ (w : ℕ) where
  fits-first : (k : ℕ) (m : (Letters (suc k)).Mon) → fits w (suc k) m ≡ true → m.0 ≤ largest_exponent w
  fits-first k m h = leb-true m.0 (largest_exponent w) (both_true (leb m.0 (largest_exponent w)) (fits w k m.1) h).0

  fits_rest : (k : ℕ) (m : (Letters (suc k)).Mon) → fits w (suc k) m ≡ true → fits w k m.1 ≡ true
  fits_rest k m h = (both_true (leb m.0 (largest_exponent w)) (fits w k m.1) h).1

  fits_more : (k : ℕ) (m : (Letters (suc k)).Mon) → m.0 ≤ largest_exponent w → fits w k m.1 ≡ true → fits w (suc k) m ≡ true
  fits_more k m h t = both (le-leb m.0 (largest_exponent w) h) t

  -- each exponent is below 2 ^ w: a field holds it, its guard bit perhaps set
  abbrev pub Held : (k : ℕ) → (Letters k).Mon → Type 0
  Held zero m = Unit {0}
  Held (suc k) m = (m.0 < 2 ^ w) × Held k m.1

  pub fits_held : (k : ℕ) (m : (Letters k).Mon) → fits w k m ≡ true → Held k m
  fits_held zero m h = tt
  fits_held (suc k) m h = (omega (arith, fits-first k m h, largest_twice w), fits_held k m.1 (fits_rest k m h))

  pub fits-one : (k : ℕ) → fits w k (Letters k).one ≡ true
  fits-one zero = refl
  fits-one (suc k) = fits_more k (Letters (suc k)).one (omega arith) (fits-one k)

  pub over-fits : (k : ℕ) (a b : (Letters k).Mon) → fits w k b ≡ true → fits w k (over k b a) ≡ true
  over-fits zero a b h = refl
  over-fits (suc k) a b h = fits_more k (over (suc k) b a) (omega (arith, fits-first k b h)) (over-fits k a.1 b.1 (fits_rest k b h))

  pub product_held : (k : ℕ) (a b : (Letters k).Mon) → fits w k a ≡ true → fits w k b ≡ true → Held k ((Letters k).mul a b)
  product_held zero a b h g = tt
  product_held (suc k) a b h g = (
    omega (arith, fits-first k a h, fits-first k b g, largest_twice w),
    product_held k a.1 b.1 (fits_rest k a h) (fits_rest k b g),
  )

  pub exponents_held : (k word : ℕ) → word < 2 ^ (w * k) → Held k (exponents_of w k word)
  exponents_held zero word h = tt
  exponents_held (suc k) word h = (
    (div-lt_iff_lt-mul (pow_pos (w * k))).1 (rw (room-suc w k) at h),
    exponents_held k (word % 2 ^ (w * k)) (mod-lt word (pow_pos (w * k))),
  )

  pub word_bound : (k : ℕ) (m : (Letters k).Mon) → Held k m → word_of w k m < 2 ^ (w * k)
  word_bound zero m h = pow_pos (w * 0)
  word_bound (suc k) m h = rw (room-suc w k) (digits_lt h.0 (word_bound k m.1 h.1))

  pub exponents_word : (k : ℕ) (m : (Letters k).Mon) → Held k m → exponents_of w k (word_of w k m) ≡ m
  exponents_word zero m h = refl
  exponents_word (suc k) m h =
      let r = word_bound k m.1 h.1 in
      λ i. (high m.0 (w * k) r i, (ap (exponents_of w k) (low m.0 (w * k) r) ∙ exponents_word k m.1 h.1) i)

  pub word_exponents : (k word : ℕ) → word < 2 ^ (w * k) → word_of w k (exponents_of w k word) ≡ word
  word_exponents zero word h = omega (arith, room-zero w)
  word_exponents (suc k) word h =
      ap (λ n. word / 2 ^ (w * k) * 2 ^ (w * k) + n) (word_exponents k (word % 2 ^ (w * k)) (mod-lt word (pow_pos (w * k)))) ∙ split word (w * k)

  pub word_one : (k : ℕ) → word_of w k (Letters k).one ≡ 0
  word_one zero = refl
  word_one (suc k) = omega (arith, word_one k)

  pub word_mul : (k : ℕ) (a b : (Letters k).Mon) → word_of w k ((Letters k).mul a b) ≡ word_of w k a + word_of w k b
  word_mul zero a b = refl
  word_mul (suc k) a b = omega (arith, word_mul k a.1 b.1)

  pub word_less : (k : ℕ) (a b : (Letters k).Mon) → Held k a → Held k b → (Lex k).less a b ↔ (word_of w k a < word_of w k b)
  word_less zero a b h g = (λ e. absurd e, λ e. omega arith)
  word_less (suc k) a b h g =
      let rest = word_less k a.1 b.1 h.1 g.1 in
      Iff.trans (then_iff a.0 b.0 rest)
      (digits_less (2 ^ (w * k)) a.0 (word_of w k a.1) b.0 (word_of w k b.1) (word_bound k a.1 h.1) (word_bound k b.1 g.1))

  pub fits_letters : (k : ℕ) (m : (Letters k).Mon) → (fits w k m ≡ true) ↔ ((v : ℕ) → exponent k v m ≤ largest_exponent w)
  fits_letters zero m = (λ h v. omega arith, λ f. refl)
  fits_letters (suc k) m =
      let rest = fits_letters k m.1 in (
        λ h v. elim v as (λ i. exponent (suc k) i m ≤ largest_exponent w) [ zero ↦ fits-first k m h | suc v' ↦ rest.0 (fits_rest k m h) v' ],
        λ f. fits_more k m (f 0) (rest.1 (λ v. f (suc v))),
      )

  -- one exponent: the field's place counted from the bottom
  pub exponent_field : (k word v : ℕ) → word < 2 ^ (w * k) → v < k → exponent k v (exponents_of w k word) ≡ word / 2 ^ (w * (k - 1 - v)) % 2 ^ w
  exponent_field zero word v h l = absurd (omega arith)
  exponent_field (suc k) word zero h l =
      let e : suc k - 1 - 0 ≡ k = omega arith in
      rw e (sym (mod-eq_of_lt (exponents_held (suc k) word h).0))
  exponent_field (suc k) word (suc v) h l =
      let e : k ≡ v + 1 + (k - 1 - v) = omega arith in
      let f : w * k ≡ w * v + w + w * (k - 1 - v) = ap (λ n. w * n) e ∙ omega arith in
      let g : suc k - 1 - suc v ≡ k - 1 - v = omega arith in
      exponent_field k (word % 2 ^ (w * k)) v (mod-lt word (pow_pos (w * k))) (omega arith)
      ∙ ap (λ n. word % 2 ^ n / 2 ^ (w * (k - 1 - v)) % 2 ^ w) f
      ∙ ap (λ n. n % 2 ^ w) (field word (w * v + w) (w * (k - 1 - v)))
      ∙ mod-mod-pow (word / 2 ^ (w * (k - 1 - v))) (w * v) w
      ∙ ap (λ n. word / 2 ^ (w * n) % 2 ^ w) (sym g)

  pub exponent-none : (k v : ℕ) (m : (Letters k).Mon) → k ≤ v → exponent k v m ≡ 0
  exponent-none zero v m h = refl
  exponent-none (suc k) zero m h = absurd (omega arith)
  exponent-none (suc k) (suc v) m h = exponent-none k v m.1 (omega arith)

-- Divisibility of exponents

divides-first : (k : ℕ) (a b : (Letters (suc k)).Mon) → divides (suc k) a b ≡ true → a.0 ≤ b.0
divides-first k a b h = leb-true a.0 b.0 (both_true (leb a.0 b.0) (divides k a.1 b.1) h).0

divides_rest : (k : ℕ) (a b : (Letters (suc k)).Mon) → divides (suc k) a b ≡ true → divides k a.1 b.1 ≡ true
divides_rest k a b h = (both_true (leb a.0 b.0) (divides k a.1 b.1) h).1

pub divides-mul : (k : ℕ) (a q : (Letters k).Mon) → divides k a ((Letters k).mul a q) ≡ true
divides-mul zero a q = refl
divides-mul (suc k) a q = both (le-leb a.0 (a.0 + q.0) (omega arith)) (divides-mul k a.1 q.1)

pub over-mul : (k : ℕ) (a b : (Letters k).Mon) → divides k a b ≡ true → (Letters k).mul a (over k b a) ≡ b
over-mul zero a b h = refl
over-mul (suc k) a b h =
    let e : a.0 + (b.0 - a.0) ≡ b.0 = omega (arith, divides-first k a b h) in
    let f = over-mul k a.1 b.1 (divides_rest k a b h) in
    λ i. (e i, f i)

pub divides-quotient : (k : ℕ) (a b : (Letters k).Mon) → (divides k a b ≡ true) ↔ ((q : (Letters k).Mon) × ((Letters k).mul a q ≡ b))
divides-quotient k a b = (
  λ d. (over k b a, over-mul k a b d),
  λ f. ap (divides k a) (sym f.1) ∙ divides-mul k a f.0,
)

pub divides_letters : (k : ℕ) (a b : (Letters k).Mon) → (divides k a b ≡ true) ↔ ((v : ℕ) → exponent k v a ≤ exponent k v b)
divides_letters zero a b = (λ d v. omega arith, λ f. refl)
divides_letters (suc k) a b =
    let rest = divides_letters k a.1 b.1 in (
      λ d v. elim v as (λ i. exponent (suc k) i a ≤ exponent (suc k) i b) [ zero ↦ divides-first k a b d | suc v' ↦ rest.0 (divides_rest k a b d) v' ],
      λ f. both (le-leb a.0 b.0 (f 0)) (rest.1 (λ v. f (suc v))),
    )

module _ (w : ℕ) where
  pub divides-fits : (k : ℕ) (a b : (Letters k).Mon) → divides k a b ≡ true → fits w k b ≡ true → fits w k a ≡ true
  divides-fits zero a b d h = refl
  divides-fits (suc k) a b d h =
      fits_more w k a (omega (arith, divides-first k a b d, fits-first w k b h))
      (divides-fits k a.1 b.1 (divides_rest k a b d) (fits_rest w k b h))

  pub factor_fits : (k : ℕ) (a b : (Letters k).Mon) → fits w k ((Letters k).mul a b) ≡ true → fits w k a ≡ true
  factor_fits k a b h = divides-fits k a ((Letters k).mul a b) (divides-mul k a b) h

-- Shifts

-- exponents side by side, each moved to its place in a word of so many bits
abbrev pub joined : (bits w k : ℕ) → (Letters k).Mon → ℕ
joined bits w zero m = 0
joined bits w (suc zero) m = m.0
joined bits w (suc (suc k)) m = bit_or (m.0 * 2 ^ (w * suc k) % 2 ^ bits) (joined bits w (suc k) m.1)

pub joined-word : (bits w k : ℕ) (m : (Letters k).Mon) → Held w k m → w * k ≤ bits → joined bits w k m ≡ word_of w k m
joined-word bits w zero m h l = refl
joined-word bits w (suc zero) m h l = omega (arith, ap (λ n. m.0 * n) (room-zero w))
joined-word bits w (suc (suc k)) m h l =
    let e : w * suc (suc k) ≡ w * suc k + w = mul-suc w (suc k) in
    (λ i. bit_or (shl_exact w (w * suc k) bits h.0 (omega arith) i) (joined-word bits w (suc k) m.1 h.1 (omega arith) i))
    ∙ or_shifted m.0 (w * suc k) (word_of w (suc k) m.1) (word_bound w (suc k) m.1 h.1)

-- Masks, for fields of suc v bits

pub or_below : (j a b : ℕ) → ltb (bit_or a b) (2 ^ j) ≡ (ltb a (2 ^ j) && ltb b (2 ^ j))
or_below j a b =
    same_test (ltb (bit_or a b) (2 ^ j)) (ltb a (2 ^ j) && ltb b (2 ^ j))
    (λ t.
    let h : bit_or a b < 2 ^ j = ltb-true (bit_or a b) (2 ^ j) t in
    let e = or_add_and a b in
    both (lt-ltb a (2 ^ j) (omega (arith, and_le_r a b))) (lt-ltb b (2 ^ j) (omega (arith, and_le_l a b))))
    (λ t.
    let s = both_true (ltb a (2 ^ j)) (ltb b (2 ^ j)) t in
    lt-ltb (bit_or a b) (2 ^ j) (or_lt j a b (ltb-true a (2 ^ j) s.0) (ltb-true b (2 ^ j) s.1)))

module _ (v : ℕ) where
  or_largest : (a b : ℕ) → leb (bit_or a b) (largest_exponent (suc v)) ≡ (leb a (largest_exponent (suc v)) && leb b (largest_exponent (suc v)))
  or_largest a b = largest_ltb v (bit_or a b) ∙ or_below v a b ∙ (λ i. sym (largest_ltb v a) i && sym (largest_ltb v b) i)

  -- the bits that are set in some exponent
  abbrev pub merged : (k : ℕ) → (Letters k).Mon → ℕ
  merged zero m = 0
  merged (suc zero) m = m.0
  merged (suc (suc k)) m = bit_or m.0 (merged (suc k) m.1)

  pub merged-test : (k : ℕ) (m : (Letters k).Mon) → leb (merged k m) (largest_exponent (suc v)) ≡ fits (suc v) k m
  merged-test zero m = le-leb 0 (largest_exponent (suc v)) (omega arith)
  merged-test (suc zero) m = sym (and-true (leb m.0 (largest_exponent (suc v))))
  merged-test (suc (suc k)) m = or_largest m.0 (merged (suc k) m.1) ∙ (λ i. leb m.0 (largest_exponent (suc v)) && merged-test (suc k) m.1 i)

  pub either-test : (k m n : ℕ) → fits (suc v) k (exponents_of (suc v) k (bit_or m n)) ≡ (fits (suc v) k (exponents_of (suc v) k m) && fits (suc v) k (exponents_of (suc v) k n))
  either-test zero m n = refl
  either-test (suc k) m n =
      let j = suc v * k in
      let top = leb (m / 2 ^ j) (largest_exponent (suc v)) in
      (λ i. leb (or_shr m n j i) (largest_exponent (suc v)) && fits (suc v) k (exponents_of (suc v) k (or_mod m n j i)))
      ∙ (λ i. or_largest (m / 2 ^ j) (n / 2 ^ j) i && either-test k (m % 2 ^ j) (n % 2 ^ j) i)
      ∙ both_swap top (leb (n / 2 ^ j) (largest_exponent (suc v))) (fits (suc v) k (exponents_of (suc v) k (m % 2 ^ j))) (fits (suc v) k (exponents_of (suc v) k (n % 2 ^ j)))

  -- the guard bits of k fields
  abbrev pub guards : ℕ → ℕ
  guards zero = 0
  guards (suc k) = 2 ^ v * 2 ^ (suc v * k) + guards k

  guards_bound : (k : ℕ) → guards k < 2 ^ (suc v * k)
  guards_bound zero = pow_pos (suc v * 0)
  guards_bound (suc k) = rw (room-suc (suc v) k) (digits_lt (omega (arith, pow-suc 2 v, pow_pos v)) (guards_bound k))

  guard-clear : (e : ℕ) → e < 2 ^ v → bit_and e (2 ^ v) ≡ 0
  guard-clear e h =
      let o : 2 ^ v ≡ 1 * 2 ^ v = omega arith in
      and_comm e (2 ^ v) ∙ ap (λ n. bit_and n e) o ∙ and_shifted 1 v e h

  guard-set : (e : ℕ) → 2 ^ v ≤ e → e < 2 ^ suc v → bit_and e (2 ^ v) ≡ 2 ^ v
  guard-set e h l =
      let p : e ≡ 1 * 2 ^ v + (e - 2 ^ v) = omega arith in
      let q : 2 ^ v ≡ 1 * 2 ^ v + 0 = omega arith in
      let o : bit_and 1 1 ≡ 1 = refl in
      (λ i. bit_and (p i) (q i)) ∙ and_block v 1 1 (e - 2 ^ v) 0 (omega (arith, pow-suc 2 v)) (pow_pos v) ∙ omega (arith, and_zero_r (e - 2 ^ v))

  guard-test : (e : ℕ) → e < 2 ^ suc v → eqb (bit_and e (2 ^ v)) 0 ≡ leb e (largest_exponent (suc v))
  guard-test e h =
      elim (dec_lt e (2 ^ v)) [
        | yes l ↦ eq-eqb (bit_and e (2 ^ v)) 0 (guard-clear e l) ∙ sym (le-leb e (largest_exponent (suc v)) (omega (arith, largest-suc v)))
        | no n ↦
            let s = guard-set e (omega arith) h in
            ne_eqb (bit_and e (2 ^ v)) 0 (λ z. omega (arith, pow_pos v)) ∙ sym (lt-leb e (largest_exponent (suc v)) (omega (arith, largest-suc v, pow_pos v)))
      ]

  pub guards-test : (k word : ℕ) → word < 2 ^ (suc v * k) → eqb (bit_and word (guards k)) 0 ≡ fits (suc v) k (exponents_of (suc v) k word)
  guards-test zero word h = eq-eqb (bit_and word 0) 0 (and_zero_r word)
  guards-test (suc k) word h =
      let j = suc v * k in
      let top = word / 2 ^ j in
      let rest = word % 2 ^ j in
      let below = mod-lt word (pow_pos j) in
      let z : 0 ≡ 0 * 2 ^ j + 0 = omega arith in
      ap (λ n. eqb (bit_and n (guards (suc k))) 0) (sym (split word j))
      ∙ (λ i. eqb (and_block j top (2 ^ v) rest (guards k) below (guards_bound k) i) (z i))
      ∙ digits_eqb (2 ^ j) (bit_and top (2 ^ v)) (bit_and rest (guards k)) 0 0 (and_lt j rest (guards k) below (guards_bound k)) (pow_pos j)
      ∙ (λ i. guard-test top (exponents_held (suc v) (suc k) word h).0 i && guards-test k rest below i)

  pub guards_cover : (k : ℕ) (m : (Letters k).Mon) → fits (suc v) k m ≡ true → word_of (suc v) k m ≤ guards k
  guards_cover zero m h = omega arith
  guards_cover (suc k) m h =
      let l : m.0 ≤ 2 ^ v = omega (arith, fits-first (suc v) k m h, largest-suc v) in
      omega (arith, mul-le-mul_right (2 ^ (suc v * k)) l, guards_cover k m.1 (fits_rest (suc v) k m h))

  guards-room : (k : ℕ) (m : (Letters k).Mon) → fits (suc v) k m ≡ true → word_of (suc v) k m + guards k < 2 ^ (suc v * k)
  guards-room zero m h = pow_pos (suc v * 0)
  guards-room (suc k) m h =
      let l : m.0 + 2 ^ v < 2 ^ suc v = omega (arith, fits-first (suc v) k m h, largest-suc v, pow-suc 2 v) in
      rw (room-suc (suc v) k) (omega (arith, digits_lt l (guards-room k m.1 (fits_rest (suc v) k m h))))

  -- a field of the dividend, its guard bit set, less one of the divisor: the guard bit stays where nothing was borrowed
  field_borrow : (a b : ℕ) → a ≤ largest_exponent (suc v) → b ≤ largest_exponent (suc v) → eqb (bit_and (b + 2 ^ v - a) (2 ^ v)) (2 ^ v) ≡ leb a b
  field_borrow a b h l =
      elim (dec_le a b) [
        | yes r ↦
            eq-eqb (bit_and (b + 2 ^ v - a) (2 ^ v)) (2 ^ v) (guard-set (b + 2 ^ v - a) (omega arith) (omega (arith, pow-suc 2 v, largest-suc v)))
            ∙ sym (le-leb a b r)
        | no n ↦
            let c = guard-clear (b + 2 ^ v - a) (omega (arith, largest-suc v)) in
            ne_eqb (bit_and (b + 2 ^ v - a) (2 ^ v)) (2 ^ v) (λ z. omega (arith, pow_pos v)) ∙ sym (lt-leb a b (omega arith))
      ]

  pub borrow_test : (k : ℕ) (a b : (Letters k).Mon) → fits (suc v) k a ≡ true → fits (suc v) k b ≡ true →
      eqb (bit_and (word_of (suc v) k b + guards k - word_of (suc v) k a) (guards k)) (guards k) ≡ divides k a b
  borrow_test zero a b h l = refl
  borrow_test (suc k) a b h l =
      let j = suc v * k in
      let h' = fits_rest (suc v) k a h in
      let l' = fits_rest (suc v) k b l in
      let top = b.0 + 2 ^ v - a.0 in
      let rest = word_of (suc v) k b.1 + guards k - word_of (suc v) k a.1 in
      let below : rest < 2 ^ j = omega (arith, guards-room k b.1 l') in
      let e = borrowed (2 ^ j) a.0 b.0 (2 ^ v) (word_of (suc v) k a.1) (word_of (suc v) k b.1) (guards k)
      (omega (arith, fits-first (suc v) k a h, largest-suc v)) (omega (arith, guards_cover k a.1 h')) in
      ap (λ n. eqb (bit_and n (guards (suc k))) (guards (suc k))) e
      ∙ ap (λ n. eqb n (guards (suc k))) (and_block j top (2 ^ v) rest (guards k) below (guards_bound k))
      ∙ digits_eqb (2 ^ j) (bit_and top (2 ^ v)) (bit_and rest (guards k)) (2 ^ v) (guards k) (and_lt j rest (guards k) below (guards_bound k)) (guards_bound k)
      ∙ (λ i. field_borrow a.0 b.0 (fits-first (suc v) k a h) (fits-first (suc v) k b l) i && borrow_test k a.1 b.1 h' l' i)
