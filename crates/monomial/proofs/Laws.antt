-- Laws of monomial words, for any layout: order is `<` on words, the product is the sum, and the quotient the difference.
--
--   read, write, fit, times, room    a word's exponents, the word of exponents, whether they fit, their product; words are below the room
--   monomial_below, monomial_fits, monomial_test, monomial_word   a monomial word is below the room and its exponents fit, no more
--                                    is asked of it, and its exponents give it back
--   word_monomial, word-read         exponents that fit have a monomial word, and it gives them back
--   less-word                        word order is the lexicographic order of the exponents
--   sum_below, sum-exponents, sum_monomial   the fields of the sum of two monomial words are the sums of the fields; it is a monomial
--                                    word just where the product of the exponents fits
--   product-sum, product_monomials   the product's word, where no exponent bursts, is the sum
--   divides_monomials, divides-exponents, divides_le   of the words of which the one divides the other
--   divides_iff                      m divides n just where m + q ≡ n for some monomial word q
--   quotient-difference              the quotient's word is the difference
--   sum-divides                      the sum of two monomial words divides a third just where the product of the exponents does, also where
--                                    the product does not fit
--   word_divides_lem                 of words of exponents that fit, the one divides the other just where the exponents have a quotient
--   Coding, coding                   the same as one record, for any kind and order of monomials; the layout's own
use Prim.Native.Nat.{ℕ, ◌+◌, ◌-◌, ◌*◌, ◌^◌, ◌≤◌, ◌<◌}
use mathlib.Core.Path.{◌≡◌, refl, sym, ◌∙◌, ap}
use mathlib.Core.Bool.{Bool, true, false, ◌&&◌}
use mathlib.Core.Logic.{◌↔◌}
use native.Mathlib.Omega.{arith}
use lib.Dec.{ltb}
use borrow.Author.Tests.{ltb-true, lt-ltb}
use Rattle.algebra.specs.Monomials.{Monomials, Letters}
use Rattle.algebra.specs.Orders.{Order, Lex}
use Rattle.algebra.specs.Residues.{pick}
use Rattle.algebra.proofs.Tests.{both_true, both, same_test}
use Rattle.monomial.specs.Layout.{Layout, exponents_of, word_of, fits, is_monomial, divides, over, word_divides}
use Rattle.field.specs.Answers.{value, no_value}
use Rattle.monomial.specs.Answers.{word_product_of, word_quotient_of}
use Rattle.monomial.proofs.Fields.{
  Held,
  fits_held,
  fits-one,
  product_held,
  word_bound,
  exponents_word,
  word_exponents,
  word_one,
  word_mul,
  word_less,
  divides-fits,
  factor_fits,
  divides-mul,
  over-mul,
  over-fits,
  divides-quotient,
}

module _ (l : Layout) where
  abbrev pub read : ℕ → (Letters l.count).Mon
  read word = exponents_of l.width l.count word

  abbrev pub write : (Letters l.count).Mon → ℕ
  write a = word_of l.width l.count a

  abbrev pub fit : (Letters l.count).Mon → Bool
  fit a = fits l.width l.count a

  abbrev pub times : (Letters l.count).Mon → (Letters l.count).Mon → (Letters l.count).Mon
  times a b = (Letters l.count).mul a b

  abbrev pub room : ℕ
  room = 2 ^ (l.width * l.count)

  pub monomial_below : (m : ℕ) → is_monomial l m ≡ true → m < room
  unfolding is_monomial
  monomial_below m h = ltb-true m room (both_true (ltb m room) (fit (read m)) h).0

  pub monomial_fits : (m : ℕ) → is_monomial l m ≡ true → fit (read m) ≡ true
  unfolding is_monomial
  monomial_fits m h = (both_true (ltb m room) (fit (read m)) h).1

  pub monomial_test : (m : ℕ) → m < room → is_monomial l m ≡ fit (read m)
  unfolding is_monomial
  monomial_test m h = ap (λ t. t && fit (read m)) (lt-ltb m room h)

  pub monomial_word : (m : ℕ) → is_monomial l m ≡ true → write (read m) ≡ m
  monomial_word m h = word_exponents l.width l.count m (monomial_below m h)

  held_monomial : (a : (Letters l.count).Mon) → Held l.width l.count a → is_monomial l (write a) ≡ fit a
  held_monomial a h = monomial_test (write a) (word_bound l.width l.count a h) ∙ ap fit (exponents_word l.width l.count a h)

  pub word_monomial : (a : (Letters l.count).Mon) → fit a ≡ true → is_monomial l (write a) ≡ true
  word_monomial a h = held_monomial a (fits_held l.width l.count a h) ∙ h

  pub word-read : (a : (Letters l.count).Mon) → fit a ≡ true → read (write a) ≡ a
  word-read a h = exponents_word l.width l.count a (fits_held l.width l.count a h)

  module _ (m n : ℕ) where
    pub less-word : is_monomial l m ≡ true → is_monomial l n ≡ true → (Lex l.count).less (read m) (read n) ↔ (m < n)
    less-word h g =
        rw (monomial_word m h, monomial_word n g) at
        (word_less l.width l.count (read m) (read n) (fits_held l.width l.count (read m) (monomial_fits m h)) (fits_held l.width l.count (read n) (monomial_fits n g)))

    sum-word : m < room → n < room → write (times (read m) (read n)) ≡ m + n
    sum-word h g =
        word_mul l.width l.count (read m) (read n)
        ∙ (λ i. word_exponents l.width l.count m h i + word_exponents l.width l.count n g i)

    sum_held : is_monomial l m ≡ true → is_monomial l n ≡ true → Held l.width l.count (times (read m) (read n))
    sum_held h g = product_held l.width l.count (read m) (read n) (monomial_fits m h) (monomial_fits n g)

    pub sum_below : is_monomial l m ≡ true → is_monomial l n ≡ true → m + n < room
    sum_below h g =
        rw (sum-word (monomial_below m h) (monomial_below n g)) at (word_bound l.width l.count (times (read m) (read n)) (sum_held h g))

    pub sum-exponents : is_monomial l m ≡ true → is_monomial l n ≡ true → read (m + n) ≡ times (read m) (read n)
    sum-exponents h g =
        ap read (sym (sum-word (monomial_below m h) (monomial_below n g))) ∙ exponents_word l.width l.count (times (read m) (read n)) (sum_held h g)

    pub sum_monomial : is_monomial l m ≡ true → is_monomial l n ≡ true → is_monomial l (m + n) ≡ fit (times (read m) (read n))
    sum_monomial h g = monomial_test (m + n) (sum_below h g) ∙ ap fit (sum-exponents h g)

    product-test : m < room → n < room → fit (times (read m) (read n)) ≡ (is_monomial l m && is_monomial l n && is_monomial l (m + n))
    product-test h g =
        same_test (fit (times (read m) (read n))) (is_monomial l m && is_monomial l n && is_monomial l (m + n))
        (λ t.
        let hm = monomial_test m h ∙ factor_fits l.width l.count (read m) (read n) t in
        let c = ap fit ((Letters l.count).mul_comm (read n) (read m)) in
        let hn = monomial_test n g ∙ factor_fits l.width l.count (read n) (read m) (c ∙ t) in
        both (both hm hn) (sum_monomial hm hn ∙ t))
        (λ t.
        let s = both_true (is_monomial l m && is_monomial l n) (is_monomial l (m + n)) t in
        let r = both_true (is_monomial l m) (is_monomial l n) s.0 in
        sym (sum_monomial r.0 r.1) ∙ s.1)

    pub product-sum : m < room → n < room → word_product_of l m n ≡ pick (is_monomial l m && is_monomial l n && is_monomial l (m + n)) (value (m + n)) (no_value 9)
    product-sum h g = λ i. pick (product-test h g i) (value (sum-word h g i)) (no_value 9)

    pub product_monomials : is_monomial l m ≡ true → is_monomial l n ≡ true → word_product_of l m n ≡ pick (is_monomial l (m + n)) (value (m + n)) (no_value 9)
    product_monomials h g = λ i. pick (sym (sum_monomial h g) i) (value (sum-word (monomial_below m h) (monomial_below n g) i)) (no_value 9)

  module _ (m n : ℕ) where
    pub divides_monomials : word_divides l m n ≡ true → (is_monomial l m ≡ true) × (is_monomial l n ≡ true)
    unfolding word_divides
    divides_monomials d = both_true (is_monomial l m) (is_monomial l n) (both_true (is_monomial l m && is_monomial l n) (divides l.count (read m) (read n)) d).0

    pub divides-exponents : is_monomial l m ≡ true → is_monomial l n ≡ true → word_divides l m n ≡ divides l.count (read m) (read n)
    unfolding word_divides
    divides-exponents h g = ap (λ t. t && divides l.count (read m) (read n)) (both h g)

    quotient-word : word_divides l m n ≡ true → m + write (over l.count (read n) (read m)) ≡ n
    quotient-word d =
        let h = divides_monomials d in
        let q = over l.count (read n) (read m) in
        let e = word_mul l.width l.count (read m) q in
        let f = ap write (over-mul l.count (read m) (read n) (sym (divides-exponents h.0 h.1) ∙ d)) in
        ap (λ x. x + write q) (sym (monomial_word m h.0)) ∙ sym e ∙ f ∙ monomial_word n h.1

    pub divides_iff : is_monomial l m ≡ true → is_monomial l n ≡ true → (word_divides l m n ≡ true) ↔ ((q : ℕ) × ((is_monomial l q ≡ true) × (m + q ≡ n)))
    divides_iff h g = (
      λ d.
          let q = over l.count (read n) (read m) in
          (write q, (word_monomial q (over-fits l.width l.count (read m) (read n) (monomial_fits n g)), quotient-word d)),
      λ f.
          let e : read n ≡ times (read m) (read f.0) = ap read (sym f.1.1) ∙ sum-exponents m f.0 h f.1.0 in
          divides-exponents h g ∙ ap (divides l.count (read m)) e ∙ divides-mul l.count (read m) (read f.0),
    )

    pub divides_le : word_divides l m n ≡ true → m ≤ n
    divides_le d = omega (arith, quotient-word d)

    pub quotient-difference : word_quotient_of l n m ≡ pick (word_divides l m n) (value (n - m)) (no_value 12)
    quotient-difference = go (word_divides l m n) refl
      where
        go : (t : Bool) → word_divides l m n ≡ t → pick t (value (write (over l.count (read n) (read m)))) (no_value 12) ≡ pick t (value (n - m)) (no_value 12)
        go true d = let e : write (over l.count (read n) (read m)) ≡ n - m = omega (arith, quotient-word d) in λ i. value (e i)
        go false d = refl

  pub sum-divides : (m n f : ℕ) → is_monomial l m ≡ true → is_monomial l n ≡ true → is_monomial l f ≡ true → word_divides l (m + n) f ≡ divides l.count (times (read m) (read n)) (read f)
  sum-divides m n f h g k =
      let e = ap (λ a. divides l.count a (read f)) (sum-exponents m n h g) in
      same_test (word_divides l (m + n) f) (divides l.count (times (read m) (read n)) (read f))
      (λ d. sym (divides-exponents (m + n) f (divides_monomials (m + n) f d).0 k ∙ e) ∙ d)
      (λ d.
      let s = sum_monomial m n h g ∙ divides-fits l.width l.count (times (read m) (read n)) (read f) d (monomial_fits f k) in
      divides-exponents (m + n) f s k ∙ e ∙ d)

  pub word_divides_lem : (a b : (Letters l.count).Mon) → fit a ≡ true → fit b ≡ true → (word_divides l (write a) (write b) ≡ true) ↔ ((q : (Letters l.count).Mon) × (times a q ≡ b))
  word_divides_lem a b h g =
      let e : word_divides l (write a) (write b) ≡ divides l.count a b =
      divides-exponents (write a) (write b) (word_monomial a h) (word_monomial b g) ∙ (λ i. divides l.count (word-read a h i) (word-read b g i))
      in
      rw (sym e) at (divides-quotient l.count a b)

-- Monomials of some kind and order, coded as words: what a proof about words needs to know of them.
pub record Coding {K : Monomials} (O : Order K) : Type 0 where
  pub word : K.Mon → ℕ
  pub exponents : ℕ → K.Mon
  pub fitting : K.Mon → Bool
  pub valid : ℕ → Bool
  pub dividing : ℕ → ℕ → Bool
  pub word_one : word K.one ≡ 0
  pub word_mul : (a b : K.Mon) → word (K.mul a b) ≡ word a + word b
  pub word_less : (a b : K.Mon) → fitting a ≡ true → fitting b ≡ true → O.less a b ↔ (word a < word b)
  pub word_valid : (a : K.Mon) → fitting a ≡ true → valid (word a) ≡ true
  pub word_exponents : (a : K.Mon) → fitting a ≡ true → exponents (word a) ≡ a
  pub exponents_fitting : (m : ℕ) → valid m ≡ true → fitting (exponents m) ≡ true
  pub exponents_word : (m : ℕ) → valid m ≡ true → word (exponents m) ≡ m
  pub one_fitting : fitting K.one ≡ true
  pub factor_fitting : (a b : K.Mon) → fitting (K.mul a b) ≡ true → fitting a ≡ true
  pub sum_valid : (m n : ℕ) → valid m ≡ true → valid n ≡ true → valid (m + n) ≡ fitting (K.mul (exponents m) (exponents n))
  pub dividing_word : (a b : K.Mon) → fitting a ≡ true → fitting b ≡ true → (dividing (word a) (word b) ≡ true) ↔ ((q : K.Mon) × (K.mul a q ≡ b))
  pub dividing_valid : (m n : ℕ) → dividing m n ≡ true → (valid m ≡ true) × (valid n ≡ true)

-- the layout's fields code the lexicographic order
abbrev pub coding : (l : Layout) → Coding (Lex l.count)
coding l =
    record {
      word = write l;
      exponents = read l;
      fitting = fit l;
      valid = is_monomial l;
      dividing = word_divides l;
      word_one = word_one l.width l.count;
      word_mul = word_mul l.width l.count;
      word_less = λ a b h g. word_less l.width l.count a b (fits_held l.width l.count a h) (fits_held l.width l.count b g);
      word_valid = word_monomial l;
      word_exponents = word-read l;
      exponents_fitting = monomial_fits l;
      exponents_word = monomial_word l;
      one_fitting = fits-one l.width l.count;
      factor_fitting = factor_fits l.width l.count;
      sum_valid = sum_monomial l;
      dividing_word = word_divides_lem l;
      dividing_valid = divides_monomials l;
    }
