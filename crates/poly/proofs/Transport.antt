-- From words back to exponents: what was computed on words is what the definitions say of exponents.
--
--   names                      words as names of the monomials that fit
--   coded_named                a polynomial with its words is one with its names
--   coded_norm                 the words of the normal form are the normal form of the words
--   coded_mul, coded_negated   of products and negatives
--   filled_poly                the polynomial in a room that was filled with the words of one
use Prim.Native.Nat.{ℕ, ◌-◌, ◌*◌, ◌<◌}
use mathlib.Core.Path.{◌≡◌, refl, sym, ◌∙◌, ap}
use mathlib.Core.Bool.{true}
use mathlib.Core.List.{[], ◌∷◌}
use lib.ListN.{length, take, replicate}
use lib.Seq.{take_at}
use Rattle.algebra.specs.Monomials.{Letters, Numbers}
use Rattle.algebra.specs.Orders.{Lex, Rising}
use Rattle.algebra.specs.Polynomials.{term, Poly, mul, negated, norm, All, times}
use Rattle.algebra.proofs.Coding.{Named, named, named-mul, named-negated, named-norm}
use Rattle.monomial.specs.Layout.{base, is_monomial}
use Rattle.monomial.proofs.Laws.{write, fit, coding, read, sum-exponents}
use Rattle.poly.specs.Words.{Monomial, poly_of, words_of, filled, decoded_poly}
use Rattle.poly.proofs.Readings.{coded_poly, flat_coded, length-flat, length_coded, poly_words}

abbrev pub names : Named (Lex 4) Rising
names =
    record {
      name = write base;
      Fits = λ m. fit base m ≡ true;
      name_mul = (coding base).word_mul;
      name_less = λ a b f g h. ((coding base).word_less a b f g).0 h;
    }

pub coded_named : (f : Poly (Letters 4)) → coded_poly base f ≡ named names f
coded_named [] = refl
coded_named (u ∷ f) = ap (λ (g : Poly Numbers). term (write base u.mon) u.num ∷ g) (coded_named f)

pub coded_mul : (f g : Poly (Letters 4)) → coded_poly base (mul f g) ≡ mul (coded_poly base f) (coded_poly base g)
coded_mul f g = coded_named (mul f g) ∙ named-mul names f g ∙ (λ d. mul (sym (coded_named f) d) (sym (coded_named g) d))

pub coded_negated : (p : ℕ) (f : Poly (Letters 4)) → coded_poly base (negated p f) ≡ negated p (coded_poly base f)
coded_negated p f = coded_named (negated p f) ∙ named-negated names p f ∙ ap (negated p) (sym (coded_named f))

pub coded_norm : (p : ℕ) → 0 < p → (f : Poly (Letters 4)) → All (λ m. fit base m ≡ true) f → coded_poly base (norm (Lex 4) p f) ≡ norm Rising p (coded_poly base f)
coded_norm p pos f a = coded_named (norm (Lex 4) p f) ∙ named-norm names p pos f a ∙ ap (norm Rising p) (sym (coded_named f))

pub filled_poly : (f : Poly (Letters 4)) (n : ℕ) → All (λ m. fit base m ≡ true) f → poly_of base (take (2 * length f) (filled n (words_of base f))) ≡ f
filled_poly f n fits =
    let long : length (words_of base f) ≡ 2 * length f = ap length (sym (flat_coded base f)) ∙ length-flat (coded_poly base f) ∙ ap (λ (k : ℕ). 2 * k) (length_coded base f) in
    ap (poly_of base) (take_at (words_of base f) (replicate (n - length (words_of base f)) 0) (2 * length f) long) ∙ poly_words base f fits

pub decoded_negated : (p : ℕ) (f : Poly Numbers) → decoded_poly base (negated p f) ≡ negated p (decoded_poly base f)
decoded_negated p [] = refl
decoded_negated p (u ∷ f) = ap (λ (h : Poly (Letters 4)). term (read base u.mon) ((p - 1) * u.num) ∷ h) (decoded_negated p f)

pub decoded_times : (m c : ℕ) (f : Poly Numbers) → is_monomial base m ≡ true → Monomial f → decoded_poly base (times (term {K = Numbers} m c) f) ≡ times (term (read base m) c) (decoded_poly base f)
decoded_times m c [] h a = refl
decoded_times m c (u ∷ f) h a =
    λ d. term (sum-exponents base m u.mon h a.0 d) (c * u.num) ∷ decoded_times m c f h a.1 d
