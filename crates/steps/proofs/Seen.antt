-- From words to exponents: what is done on the words of a sorted list is what the walk does on its exponents.
--
--   is_word        a word is a monomial
--   remains_seen   what remains after a quotient term, on words
use Prim.Native.Nat.{ℕ, ◌<◌}
use mathlib.Core.Path.{◌≡◌, sym, ◌∙◌, ap}
use mathlib.Core.Bool.{true}
use mathlib.Core.List.{◌++◌}
use Rattle.algebra.specs.Monomials.{Letters, Numbers}
use Rattle.algebra.specs.Orders.{Lex, Rising}
use Rattle.algebra.specs.Polynomials.{term, Poly, times, negated, sorted}
use Rattle.algebra.specs.Walk.{remains}
use Rattle.algebra.proofs.NormalForm.{sorted_all}
use Rattle.algebra.proofs.All.{all_append, negated_all}
use Rattle.algebra.proofs.Sorted.{alike_refl, alike_append, sorted_alike, sorted_same}
use Rattle.algebra.proofs.Coding.{named-sorted}
use Rattle.monomial.specs.Layout.{base, is_monomial}
use Rattle.monomial.proofs.Laws.{read, fit}
use Rattle.poly.proofs.Readings.{coded_poly, decoded_append, decoded_coded, coded_decoded, decoded_fits}
use Rattle.poly.specs.Words.{decoded_poly, Monomial}
use Rattle.poly.proofs.Transport.{names, coded_named, decoded_negated, decoded_times}
use Rattle.steps.specs.Walking.{seen}

abbrev pub is_word : ℕ → Type 0
is_word m = is_monomial base m ≡ true

module _ (p : ℕ) (pos : 0 < p) where
  decoded_sorted : (f : Poly Numbers) → Monomial f → sorted (Lex 4) p (decoded_poly base f) ≡ decoded_poly base (sorted Rising p f)
  decoded_sorted f a =
      let h = decoded_poly base f in
      let fitting = decoded_fits base f a in
      let words : coded_poly base (sorted (Lex 4) p h) ≡ sorted Rising p f =
      coded_named (sorted (Lex 4) p h)
      ∙ named-sorted names p pos h fitting
      ∙ ap (sorted Rising p) (sym (coded_named h) ∙ coded_decoded base f a)
      in
      sym (decoded_coded base (sorted (Lex 4) p h) (sorted_all (Lex 4) p pos (λ m. fit base m ≡ true) h fitting))
      ∙ ap (decoded_poly base) words

  module _ (m c : ℕ) (f g : Poly Numbers) where
    abbrev products : Poly Numbers
    products = times (term m c) g

    abbrev left : Poly Numbers
    left = sorted Rising p f ++ negated p products

    pub remains_seen :
        is_word m → Monomial f → Monomial g → Monomial products →
        remains (Lex 4) p (decoded_poly base g) (term (read base m) c) (seen p f) ≡ seen p (f ++ negated p products)
    remains_seen h a b k =
        let list : decoded_poly base left ≡ seen p f ++ negated p (times (term (read base m) c) (decoded_poly base g)) =
        decoded_append base (sorted Rising p f) (negated p products)
        ∙ ap (λ (x : Poly (Letters 4)). seen p f ++ x) (decoded_negated p products ∙ ap (negated p) (decoded_times m c g h b))
        in
        let words : Monomial left =
        all_append {K = Numbers} is_word (sorted Rising p f) (negated p products)
        (sorted_all Rising p pos is_word f a)
        (negated_all {K = Numbers} is_word p products k)
        in
        ap (sorted (Lex 4) p) (sym list)
        ∙ decoded_sorted left words
        ∙ ap (decoded_poly base) (sorted_same Rising pos (alike_append Rising pos (sorted_alike Rising pos f) alike_refl))
