-- The code's tests on whole words, for any number k of fields of suc v bits.
--
--   mask_monomial    no bit of the mask of guard bits is set just where the word is a monomial
--   either_monomial  one test for two words
--   both_monomials   the same, read as two facts
--   sum_tested       the product of two words, by those tests of both words and of their sum
--   divides-none     where that test fails, the one word does not divide the other
--   lent-word        setting a monomial's guard bits adds the mask
--   lent_covers      with its guard bits set a monomial is at least every monomial
--   mask_divides     after the difference all guard bits are still set just where the one divides the other
use Prim.Native.Nat.{ℕ, suc, ◌+◌, ◌-◌, ◌*◌, ◌^◌, ◌≤◌, ◌<◌}
use mathlib.Core.Path.{◌≡◌, sym, ◌∙◌, ap}
use mathlib.Core.Bool.{true, false, ◌&&◌}
use native.Mathlib.Omega.{arith}
use lib.Bits.{bit_and, bit_or, or_disjoint}
use lib.Dec.{eqb, ltb}
use borrow.Author.Tests.{eqb-true}
use Rattle.algebra.specs.Residues.{pick}
use Rattle.algebra.proofs.Tests.{both_true, both_swap}
use Rattle.field.specs.Answers.{value, no_value}
use Rattle.monomial.specs.Answers.{word_product_of}
use Rattle.monomial.specs.Layout.{Layout, exponents_of, fits, is_monomial, divides, word_divides}
use Rattle.monomial.proofs.Fields.{or_below, either-test, guards, guards-test, guards_cover, borrow_test}
use Rattle.monomial.proofs.Laws.{read, monomial_below, monomial_fits, monomial_test, monomial_word, product-sum, divides-exponents}

module _ (v k : ℕ) where
  abbrev pub fields : Layout
  fields = record { count = k; width = suc v }

  pub mask_monomial : (m : ℕ) → m < 2 ^ (suc v * k) → eqb (bit_and m (guards v k)) 0 ≡ is_monomial fields m
  mask_monomial m h = guards-test v k m h ∙ sym (monomial_test fields m h)

  pub either_monomial : (m n : ℕ) → is_monomial fields (bit_or m n) ≡ (is_monomial fields m && is_monomial fields n)
  unfolding is_monomial
  either_monomial m n =
      let j = suc v * k in
      (λ i. or_below j m n i && either-test v k m n i)
      ∙ both_swap (ltb m (2 ^ j)) (ltb n (2 ^ j)) (fits (suc v) k (exponents_of (suc v) k m)) (fits (suc v) k (exponents_of (suc v) k n))

  pub both_monomials : (m n : ℕ) → is_monomial fields (bit_or m n) ≡ true → (is_monomial fields m ≡ true) × (is_monomial fields n ≡ true)
  both_monomials m n h = both_true (is_monomial fields m) (is_monomial fields n) (sym (either_monomial m n) ∙ h)

  pub sum_tested : (m n : ℕ) → m < 2 ^ (suc v * k) → n < 2 ^ (suc v * k) →
      word_product_of fields m n ≡ pick (is_monomial fields (bit_or m n) && is_monomial fields (m + n)) (value (m + n)) (no_value 9)
  sum_tested m n h g =
      product-sum fields m n h g ∙ ap (λ t. pick (t && is_monomial fields (m + n)) (value (m + n)) (no_value 9)) (sym (either_monomial m n))

  pub divides-none : (m n : ℕ) → is_monomial fields (bit_or m n) ≡ false → word_divides fields m n ≡ false
  unfolding word_divides
  divides-none m n h = ap (λ t. t && divides k (read fields m) (read fields n)) (sym (either_monomial m n) ∙ h)

  pub lent-word : (n : ℕ) → is_monomial fields n ≡ true → bit_or n (guards v k) ≡ n + guards v k
  lent-word n h =
      or_disjoint n (guards v k) (eqb-true (bit_and n (guards v k)) 0 (mask_monomial n (monomial_below fields n h) ∙ h))

  pub lent_covers : (m n : ℕ) → is_monomial fields m ≡ true → is_monomial fields n ≡ true → m ≤ bit_or n (guards v k)
  lent_covers m n h g =
      omega (arith, lent-word n g, monomial_word fields m h, guards_cover v k (read fields m) (monomial_fits fields m h))

  pub mask_divides : (m n : ℕ) → is_monomial fields m ≡ true → is_monomial fields n ≡ true → eqb (bit_and (bit_or n (guards v k) - m) (guards v k)) (guards v k) ≡ word_divides fields m n
  mask_divides m n h g =
      let e = lent-word n g ∙ ap (λ x. x + guards v k) (sym (monomial_word fields n g)) in
      let f = sym (monomial_word fields m h) in
      (λ i. eqb (bit_and (e i - f i) (guards v k)) (guards v k))
      ∙ borrow_test v k (read fields m) (read fields n) (monomial_fits fields m h) (monomial_fits fields n g)
      ∙ sym (divides-exponents fields m n h g)
