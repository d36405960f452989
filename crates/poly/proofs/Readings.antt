-- Readings of words: a slice as terms whose monomials are words, such terms as words, and both beside the polynomial meant.
--
--   term_w s i                      record i, its monomial a word
--   flat f                          the words of such terms
--   coded_poly l f                  a polynomial with the word of each monomial in its place
--   length-span, span-append, span-one_more   n records are n terms; records after records; one record more at the end
--   span_same                       two slices with the same words have the same records
--   span-cons                       the records of a slice behind one more record in front
--   length-flat, flat-append, records-flat   of the words of terms
--   span-flat, span-flat-append, flat-span, flat-records   words and their records, there and back
--   span-set-after, span_store, span_stored   the records after a store: elsewhere, and at the end
--   span_all, all_span, span_falling, falling_span, span_reduced, reduced_span   a property of every record, record by record
--   length_poly                     a slice has as many terms as records
--   flat_coded, terms_decoded, poly_decoded   a polynomial's words are those of its coded terms; a slice's terms are its records decoded
--   decoded_coded, coded_decoded, length_coded, decoded_append, coded_append, coded_monomials, decoded_fits   coding undoes decoding
--   coded_normal, normal_coded      a polynomial that fits is normal just where its coded terms are
--   poly_words, poly_words-append   the polynomial of a polynomial's words, and with more words after them
--   valid_span, valid_flat          a slice is Valid whose records are monomials and normal
--   valid_words                     the words of a normal polynomial that fits are Valid
--   span_monomials, span_normal, valid_fits, valid_coded, valid_normal, valid_words_of   of a Valid slice, the other way
--   measure-exponents               the profile is of the largest weights
--   weight_within                   every term weighs at most the largest weight, as each exponent is at most the letter's largest
use Prim.Native.Nat.{ℕ, zero, suc, ◌+◌, ◌-◌, ◌*◌, ◌<◌, ◌≤◌}
use mathlib.Core.Path.{◌≡◌, refl, sym, ◌∙◌, ap, subst}
use mathlib.Core.Bool.{true}
use mathlib.Core.List.{List, [], ◌∷◌, ◌++◌, append-nil}
use mathlib.Core.Logic.{inl, inr}
use native.Mathlib.Nat.{add-zero, zero-add, suc-add, lt_trans, eq-or-lt_of_le}
use native.Mathlib.Omega.{arith}
use lib.ListN.{length, get_or, take, drop, set, length-append, length-set}
use lib.Seq.{drop-cons, take_all, get_or-set_same, get_or-set_other}
use Rattle.algebra.specs.Monomials.{Letters, Numbers, exponent}
use Rattle.algebra.specs.Orders.{Rising, Lex}
use Rattle.algebra.specs.Polynomials.{Term, term, Poly, largest, All, Below, Falling, Reduced, Normal}
use Rattle.algebra.proofs.Degrees.{largest_all}
use Rattle.monomial.specs.Layout.{Layout, base, is_monomial}
use Rattle.monomial.proofs.Laws.{read, write, fit, monomial_fits, monomial_word, word_monomial, word-read, coding}
use Rattle.poly.specs.Words.{records, word_at, coef_at, term_at, terms, span, decoded_poly, poly_of, words_of}
use Rattle.poly.specs.Profiles.{measure_of}
use Rattle.poly.specs.Valid.{Valid}

abbrev pub term_w : List ℕ → ℕ → Term Numbers
term_w s i = term (word_at s i) (coef_at s i)

abbrev pub flat : Poly Numbers → List ℕ
flat [] = []
flat (u ∷ f) = u.mon ∷ u.num ∷ flat f

abbrev pub coded_poly : (l : Layout) → Poly (Letters l.count) → Poly Numbers
coded_poly l [] = []
coded_poly l (u ∷ f) = term (write l u.mon) u.num ∷ coded_poly l f

-- Records

length-terms : (l : Layout) (s : List ℕ) (i n : ℕ) → length (terms l s i n) ≡ n
length-terms l s i zero = refl
length-terms l s i (suc n) = ap suc (length-terms l s (suc i) n)

pub length-span : (s : List ℕ) (i n : ℕ) → length (span s i n) ≡ n
length-span s i zero = refl
length-span s i (suc n) = ap suc (length-span s (suc i) n)

pub span-append : (s : List ℕ) (i n m : ℕ) → span s i (n + m) ≡ span s i n ++ span s (i + n) m
span-append s i zero m = λ d. span s (sym (add-zero i) d) (zero-add m d)
span-append s i (suc n) m =
    let e : suc i + n ≡ i + suc n = omega arith in
    ap (span s i) (suc-add n m)
    ∙ ap (λ f. term_w s i ∷ f) (span-append s (suc i) n m ∙ ap (λ x. span s (suc i) n ++ span s x m) e)

pub span-one_more : (s : List ℕ) (i n : ℕ) → span s i (n + 1) ≡ span s i n ++ (term_w s (i + n) ∷ [])
span-one_more s i n = span-append s i n 1

pub span_same : (s t : List ℕ) (i j n : ℕ) → ((k : ℕ) → k < n → word_at s (i + k) ≡ word_at t (j + k)) → ((k : ℕ) → k < n → coef_at s (i + k) ≡ coef_at t (j + k)) → span s i n ≡ span t j n
span_same s t i j zero f g = refl
span_same s t i j (suc n) f g =
    let a : (x k : ℕ) → x + suc k ≡ suc x + k = λ x k. omega arith in
    let m = (λ d. word_at s (sym (add-zero i) d)) ∙ f 0 (omega arith) ∙ (λ d. word_at t (add-zero j d)) in
    let c = (λ d. coef_at s (sym (add-zero i) d)) ∙ g 0 (omega arith) ∙ (λ d. coef_at t (add-zero j d)) in
    let rest = span_same s t (suc i) (suc j) n (λ k h. (λ d. word_at s (sym (a i k) d)) ∙ f (suc k) (omega arith) ∙ (λ d. word_at t (a j k d)))
    (λ k h. (λ d. coef_at s (sym (a i k) d)) ∙ g (suc k) (omega arith) ∙ (λ d. coef_at t (a j k d))) in
    λ d. term (m d) (c d) ∷ rest d

module _ (m c : ℕ) (zs : List ℕ) where
  word-cons : (i : ℕ) → word_at (m ∷ c ∷ zs) (suc i) ≡ word_at zs i
  word-cons i = let e : 2 * suc i ≡ suc (suc (2 * i)) = omega arith in ap (λ x. get_or (m ∷ c ∷ zs) x 0) e

  coef-cons : (i : ℕ) → coef_at (m ∷ c ∷ zs) (suc i) ≡ coef_at zs i
  coef-cons i = let e : 2 * suc i + 1 ≡ suc (suc (2 * i + 1)) = omega arith in ap (λ x. get_or (m ∷ c ∷ zs) x 0) e

  pub span-cons : (i n : ℕ) → span (m ∷ c ∷ zs) (suc i) n ≡ span zs i n
  span-cons i n = span_same (m ∷ c ∷ zs) zs (suc i) i n (λ k h. ap (word_at (m ∷ c ∷ zs)) (suc-add i k) ∙ word-cons (i + k)) (λ k h. ap (coef_at (m ∷ c ∷ zs)) (suc-add i k) ∙ coef-cons (i + k))

-- Words of terms

pub length-flat : (f : Poly Numbers) → length (flat f) ≡ 2 * length f
length-flat [] = refl
length-flat (u ∷ f) = omega (arith, length-flat f)

pub flat-append : (f g : Poly Numbers) → flat (f ++ g) ≡ flat f ++ flat g
flat-append [] g = refl
flat-append (u ∷ f) g = ap (λ s. u.mon ∷ u.num ∷ s) (flat-append f g)

pub records-flat : (f : Poly Numbers) (zs : List ℕ) → records (flat f ++ zs) ≡ length f + records zs
records-flat f zs = omega (arith, length-append (flat f) zs, length-flat f)

pub span-flat-append : (f : Poly Numbers) (zs : List ℕ) (n : ℕ) → span (flat f ++ zs) 0 (length f + n) ≡ f ++ span zs 0 n
span-flat-append [] zs n = ap (span zs 0) (zero-add n)
span-flat-append (u ∷ f) zs n =
    ap (span (flat (u ∷ f) ++ zs) 0) (suc-add (length f) n)
    ∙ ap (λ g. u ∷ g) (span-cons u.mon u.num (flat f ++ zs) 0 (length f + n) ∙ span-flat-append f zs n)

pub span-flat : (f : Poly Numbers) (zs : List ℕ) → span (flat f ++ zs) 0 (length f) ≡ f
span-flat [] zs = refl
span-flat (u ∷ f) zs = ap (λ g. u ∷ g) (span-cons u.mon u.num (flat f ++ zs) 0 (length f) ∙ span-flat f zs)

pub flat-span : (s : List ℕ) (i n : ℕ) → 2 * (i + n) ≤ length s → flat (span s i n) ≡ take (2 * n) (drop (2 * i) s)
flat-span s i zero h = refl
flat-span s i (suc n) h =
    let e : suc (suc (2 * n)) ≡ 2 * suc n = omega arith in
    let a : suc (2 * i) ≡ 2 * i + 1 = omega arith in
    let b : suc (2 * i + 1) ≡ 2 * suc i = omega arith in
    let d : drop (2 * i) s ≡ word_at s i ∷ coef_at s i ∷ drop (2 * suc i) s = drop-cons s (2 * i) 0 (omega arith)
    ∙ ap (λ x. word_at s i ∷ x) (ap (λ x. drop x s) a ∙ drop-cons s (2 * i + 1) 0 (omega arith) ∙ ap (λ x. coef_at s i ∷ drop x s) b) in
    ap (λ x. word_at s i ∷ coef_at s i ∷ x) (flat-span s (suc i) n (omega arith)) ∙ ap (λ x. take (suc (suc (2 * n))) x) (sym d) ∙ ap (λ x. take x (drop (2 * i) s)) e

pub flat-records : (s : List ℕ) → length s ≡ 2 * records s → flat (span s 0 (records s)) ≡ s
flat-records s h = flat-span s 0 (records s) (omega arith) ∙ take_all (2 * records s) s (omega arith)

-- Stores

module _ (s : List ℕ) (i n j a : ℕ) where
  pub span-set-after : 2 * (i + n) ≤ j → span (set s j a) i n ≡ span s i n
  span-set-after h =
      span_same (set s j a) s i i n
      (λ k l. get_or-set_other s j (2 * (i + k)) a 0 (λ e. omega arith))
      (λ k l. get_or-set_other s j (2 * (i + k) + 1) a 0 (λ e. omega arith))

-- a record stored behind the n from i on
pub span_store : (s : List ℕ) (i n m c : ℕ) → 2 * (i + n) + 1 < length s → span (set (set s (2 * (i + n)) m) (2 * (i + n) + 1) c) i (n + 1) ≡ span s i n ++ (term m c ∷ [])
span_store s i n m c h =
    let at = 2 * (i + n) in
    let t = set s at m in
    let r = set t (at + 1) c in
    let front : span r i n ≡ span s i n = span-set-after t i n (at + 1) c (omega arith) ∙ span-set-after s i n at m (omega arith) in
    let word : word_at r (i + n) ≡ m = get_or-set_other t (at + 1) at c 0 (λ e. omega arith) ∙ get_or-set_same s at m 0 (omega arith) in
    let coef : coef_at r (i + n) ≡ c = get_or-set_same t (at + 1) c 0 (rw length-set (omega arith)) in
    span-one_more r i n ∙ (λ d. front d ++ (term (word d) (coef d) ∷ []))

pub span_stored : (s : List ℕ) (n m c : ℕ) → 2 * n + 1 < length s → span (set (set s (2 * n) m) (2 * n + 1) c) 0 (n + 1) ≡ span s 0 n ++ (term m c ∷ [])
span_stored s n m c h =
    rw (zero-add n) at (span_store s 0 n m c (omega arith))

-- Words filled up with zero words

-- Properties of every record

module _ (P : ℕ → Type 0) (s : List ℕ) where
  pub span_all : (i n : ℕ) → ((k : ℕ) → i ≤ k → k < i + n → P (word_at s k)) → All {K = Numbers} P (span s i n)
  span_all i zero f = tt
  span_all i (suc n) f = (f i (omega arith) (omega arith), span_all (suc i) n (λ k h l. f k (omega arith) (omega arith)))

  pub all_span : (i n : ℕ) → All {K = Numbers} P (span s i n) → (k : ℕ) → i ≤ k → k < i + n → P (word_at s k)
  all_span i zero a k h l = absurd (omega arith)
  all_span i (suc n) a k h l =
      elim (eq-or-lt_of_le h) [
        | inl e ↦ subst (λ x. P (word_at s x)) e a.0
        | inr g ↦ all_span (suc i) n a.1 k g (omega arith)
      ]

module _ (s : List ℕ) where
  falls_far : (i d e : ℕ) → ((j : ℕ) → i ≤ j → suc j < e → word_at s (suc j) < word_at s j) → i + suc d < e → word_at s (i + suc d) < word_at s i
  falls_far i zero e f h =
      let o : i + 1 ≡ suc i = omega arith in
      subst (λ x. word_at s x < word_at s i) (sym o) (f i (omega arith) (omega arith))
  falls_far i (suc d) e f h =
      let o : i + suc (suc d) ≡ suc (i + suc d) = omega arith in
      let last = f (i + suc d) (omega arith) (omega arith) in
      subst (λ x. word_at s x < word_at s i) (sym o) (lt_trans last (falls_far i d e f (omega arith)))

  pub span_falling : (i n : ℕ) → ((j : ℕ) → i ≤ j → suc j < i + n → word_at s (suc j) < word_at s j) → Falling Rising (span s i n)
  span_falling i zero f = tt
  span_falling i (suc n) f = (
    span_all (λ m. m < word_at s i) s (suc i) n
        (λ k h l.
        let e : i + suc (k - suc i) ≡ k = omega arith in
        subst (λ x. word_at s x < word_at s i) e (falls_far i (k - suc i) (i + suc n) f (omega arith))),
    span_falling (suc i) n (λ j h l. f j (omega arith) (omega arith)),
  )

  pub falling_span : (i n : ℕ) → Falling Rising (span s i n) → (k : ℕ) → i ≤ k → suc k < i + n → word_at s (suc k) < word_at s k
  falling_span i zero a k h l = absurd (omega arith)
  falling_span i (suc n) a k h l =
      elim (eq-or-lt_of_le h) [
        | inl e ↦ subst (λ x. word_at s (suc x) < word_at s x) e (all_span (λ m. m < word_at s i) s (suc i) n a.0 (suc i) (omega arith) (omega arith))
        | inr g ↦ falling_span (suc i) n a.1 k g (omega arith)
      ]

  module _ (p : ℕ) where
    pub span_reduced : (i n : ℕ) → ((k : ℕ) → i ≤ k → k < i + n → (0 < coef_at s k) × (coef_at s k < p)) → Reduced p (span s i n)
    span_reduced i zero f = tt
    span_reduced i (suc n) f =
        let here = f i (omega arith) (omega arith) in
        (here.0, here.1, span_reduced (suc i) n (λ k h l. f k (omega arith) (omega arith)))

    pub reduced_span : (i n : ℕ) → Reduced p (span s i n) → (k : ℕ) → i ≤ k → k < i + n → (0 < coef_at s k) × (coef_at s k < p)
    reduced_span i zero a k h l = absurd (omega arith)
    reduced_span i (suc n) a k h l =
        elim (eq-or-lt_of_le h) [
          | inl e ↦ subst (λ x. (0 < coef_at s x) × (coef_at s x < p)) e (a.0, a.1)
          | inr g ↦ reduced_span (suc i) n a.2 k g (omega arith)
        ]

-- Words of monomials

module _ (l : Layout) where
  pub flat_coded : (f : Poly (Letters l.count)) → flat (coded_poly l f) ≡ words_of l f
  flat_coded [] = refl
  flat_coded (u ∷ f) = ap (λ s. write l u.mon ∷ u.num ∷ s) (flat_coded f)

  pub length_coded : (f : Poly (Letters l.count)) → length (coded_poly l f) ≡ length f
  length_coded [] = refl
  length_coded (u ∷ f) = ap suc (length_coded f)

  pub terms_decoded : (s : List ℕ) (i n : ℕ) → terms l s i n ≡ decoded_poly l (span s i n)
  terms_decoded s i zero = refl
  terms_decoded s i (suc n) = ap (λ f. term_at l s i ∷ f) (terms_decoded s (suc i) n)

  pub decoded_append : (f g : Poly Numbers) → decoded_poly l (f ++ g) ≡ decoded_poly l f ++ decoded_poly l g
  decoded_append [] g = refl
  decoded_append (u ∷ f) g = ap (λ h. term (read l u.mon) u.num ∷ h) (decoded_append f g)

  pub coded_append : (f g : Poly (Letters l.count)) → coded_poly l (f ++ g) ≡ coded_poly l f ++ coded_poly l g
  coded_append [] g = refl
  coded_append (u ∷ f) g = ap (λ h. term (write l u.mon) u.num ∷ h) (coded_append f g)

  pub decoded_coded : (f : Poly (Letters l.count)) → All (λ m. fit l m ≡ true) f → decoded_poly l (coded_poly l f) ≡ f
  decoded_coded [] a = refl
  decoded_coded (u ∷ f) a = λ d. term (word-read l u.mon a.0 d) u.num ∷ decoded_coded f a.1 d

  pub coded_decoded : (f : Poly Numbers) → All {K = Numbers} (λ m. is_monomial l m ≡ true) f → coded_poly l (decoded_poly l f) ≡ f
  coded_decoded [] a = refl
  coded_decoded (u ∷ f) a = λ d. term (monomial_word l u.mon a.0 d) u.num ∷ coded_decoded f a.1 d

  pub coded_monomials : (f : Poly (Letters l.count)) → All (λ m. fit l m ≡ true) f → All {K = Numbers} (λ m. is_monomial l m ≡ true) (coded_poly l f)
  coded_monomials [] a = tt
  coded_monomials (u ∷ f) a = (word_monomial l u.mon a.0, coded_monomials f a.1)

  pub decoded_fits : (f : Poly Numbers) → All {K = Numbers} (λ m. is_monomial l m ≡ true) f → All (λ m. fit l m ≡ true) (decoded_poly l f)
  decoded_fits [] a = tt
  decoded_fits (u ∷ f) a = (monomial_fits l u.mon a.0, decoded_fits f a.1)

  -- order and coefficients

  coded_below : (m : (Letters l.count).Mon) → fit l m ≡ true → (f : Poly (Letters l.count)) → All (λ n. fit l n ≡ true) f → Below (Lex l.count) m f → Below Rising (write l m) (coded_poly l f)
  coded_below m h [] a b = tt
  coded_below m h (u ∷ f) a b = (((coding l).word_less u.mon m a.0 h).0 b.0, coded_below m h f a.1 b.1)

  below_coded : (m : (Letters l.count).Mon) → fit l m ≡ true → (f : Poly (Letters l.count)) → All (λ n. fit l n ≡ true) f → Below Rising (write l m) (coded_poly l f) → Below (Lex l.count) m f
  below_coded m h [] a b = tt
  below_coded m h (u ∷ f) a b = (((coding l).word_less u.mon m a.0 h).1 b.0, below_coded m h f a.1 b.1)

  coded_falling : (f : Poly (Letters l.count)) → All (λ m. fit l m ≡ true) f → Falling (Lex l.count) f → Falling Rising (coded_poly l f)
  coded_falling [] a b = tt
  coded_falling (u ∷ f) a b = (coded_below u.mon a.0 f a.1 b.0, coded_falling f a.1 b.1)

  falling_coded : (f : Poly (Letters l.count)) → All (λ m. fit l m ≡ true) f → Falling Rising (coded_poly l f) → Falling (Lex l.count) f
  falling_coded [] a b = tt
  falling_coded (u ∷ f) a b = (below_coded u.mon a.0 f a.1 b.0, falling_coded f a.1 b.1)

  module _ (p : ℕ) where
    coded_reduced : (f : Poly (Letters l.count)) → Reduced p f → Reduced p (coded_poly l f)
    coded_reduced [] b = tt
    coded_reduced (u ∷ f) b = (b.0, b.1, coded_reduced f b.2)

    reduced_coded : (f : Poly (Letters l.count)) → Reduced p (coded_poly l f) → Reduced p f
    reduced_coded [] b = tt
    reduced_coded (u ∷ f) b = (b.0, b.1, reduced_coded f b.2)

    pub coded_normal : (f : Poly (Letters l.count)) → All (λ m. fit l m ≡ true) f → Normal (Lex l.count) p f → Normal Rising p (coded_poly l f)
    coded_normal f a n = record { falling = coded_falling f a n.falling; reduced = coded_reduced f n.reduced }

    pub normal_coded : (f : Poly (Letters l.count)) → All (λ m. fit l m ≡ true) f → Normal Rising p (coded_poly l f) → Normal (Lex l.count) p f
    normal_coded f a n = record { falling = falling_coded f a n.falling; reduced = reduced_coded f n.reduced }

  -- there and back

  pub poly_decoded : (s : List ℕ) → poly_of l s ≡ decoded_poly l (span s 0 (records s))
  unfolding poly_of
  poly_decoded s = terms_decoded s 0 (records s)

  pub length_poly : (s : List ℕ) → length (poly_of l s) ≡ records s
  unfolding poly_of
  length_poly s = length-terms l s 0 (records s)

  pub poly_words-append : (f : Poly (Letters l.count)) (zs : List ℕ) → All (λ m. fit l m ≡ true) f → poly_of l (words_of l f ++ zs) ≡ f ++ poly_of l zs
  poly_words-append f zs a =
      let g = coded_poly l f in
      ap (λ s. poly_of l (s ++ zs)) (sym (flat_coded f))
      ∙ poly_decoded (flat g ++ zs)
      ∙ ap (λ n. decoded_poly l (span (flat g ++ zs) 0 n)) (records-flat g zs)
      ∙ ap (decoded_poly l) (span-flat-append g zs (records zs))
      ∙ decoded_append g (span zs 0 (records zs))
      ∙ (λ d. decoded_coded f a d ++ sym (poly_decoded zs) d)

  pub poly_words : (f : Poly (Letters l.count)) → All (λ m. fit l m ≡ true) f → poly_of l (words_of l f) ≡ f
  unfolding poly_of
  poly_words f a = ap (poly_of l) (sym (append-nil (words_of l f))) ∙ poly_words-append f [] a ∙ append-nil f

-- Valid slices

pub valid_span : (p : ℕ) (s : List ℕ) → length s ≡ 2 * records s → All {K = Numbers} (λ m. is_monomial base m ≡ true) (span s 0 (records s)) → Normal Rising p (span s 0 (records s)) → Valid p s
valid_span p s e a n =
    record {
      even = e;
      monomials = λ i h. all_span (λ m. is_monomial base m ≡ true) s 0 (records s) a i (omega arith) (omega arith);
      falls = λ i h. falling_span s 0 (records s) n.falling i (omega arith) (omega arith);
      coefs = λ i h. reduced_span s p 0 (records s) n.reduced i (omega arith) (omega arith);
    }

module _ (p : ℕ) (s : List ℕ) (v : Valid p s) where
  pub span_monomials : All {K = Numbers} (λ m. is_monomial base m ≡ true) (span s 0 (records s))
  span_monomials = span_all (λ m. is_monomial base m ≡ true) s 0 (records s) (λ k h g. v.monomials k (omega arith))

  pub span_normal : Normal Rising p (span s 0 (records s))
  span_normal =
      record {
        falling = span_falling s 0 (records s) (λ j h g. v.falls j (omega arith));
        reduced = span_reduced s p 0 (records s) (λ k h g. v.coefs k (omega arith));
      }

  pub valid_fits : All (λ m. fit base m ≡ true) (poly_of base s)
  valid_fits = subst (All (λ m. fit base m ≡ true)) (sym (poly_decoded base s)) (decoded_fits base (span s 0 (records s)) span_monomials)

  pub valid_coded : coded_poly base (poly_of base s) ≡ span s 0 (records s)
  valid_coded = ap (coded_poly base) (poly_decoded base s) ∙ coded_decoded base (span s 0 (records s)) span_monomials

  pub valid_normal : Normal (Lex 4) p (poly_of base s)
  valid_normal = normal_coded base p (poly_of base s) valid_fits (subst (Normal Rising p) (sym valid_coded) span_normal)

  pub valid_words_of : words_of base (poly_of base s) ≡ s
  valid_words_of = sym (flat_coded base (poly_of base s)) ∙ ap flat valid_coded ∙ flat-records s v.even

pub valid_flat : (p : ℕ) (f : Poly Numbers) → All {K = Numbers} (λ m. is_monomial base m ≡ true) f → Normal Rising p f → Valid p (flat f)
valid_flat p f a n =
    let r : records (flat f) ≡ length f = omega (arith, length-flat f) in
    let e : span (flat f) 0 (records (flat f)) ≡ f = ap (λ k. span (flat f) 0 k) r ∙ ap (λ s. span s 0 (length f)) (sym (append-nil (flat f))) ∙ span-flat f [] in
    valid_span p (flat f) (omega (arith, length-flat f)) (subst (All {K = Numbers} (λ m. is_monomial base m ≡ true)) (sym e) a) (subst (Normal Rising p) (sym e) n)

pub valid_words : (p : ℕ) (f : Poly (Letters 4)) → All (λ m. fit base m ≡ true) f → Normal (Lex 4) p f → Valid p (words_of base f)
valid_words p f a n = subst (Valid p) (flat_coded base f) (valid_flat p (coded_poly base f) (coded_monomials base f a) (coded_normal base p f a n))

-- The profile

module _ (s : List ℕ) where
  pub measure-exponents : (v : ℕ) → v < 4 → get_or (measure_of s).exponents v 0 ≡ largest (exponent 4 v) (poly_of base s)
  unfolding measure_of
  measure-exponents zero h = refl
  measure-exponents (suc zero) h = refl
  measure-exponents (suc (suc zero)) h = refl
  measure-exponents (suc (suc (suc zero))) h = refl
  measure-exponents (suc (suc (suc (suc v)))) h = absurd (omega arith)

  -- every term weighs at most the largest weight
  pub weight_within : (w : (Letters 4).Mon → ℕ) (i : ℕ) → i < records s → w (read base (word_at s i)) ≤ largest w (poly_of base s)
  weight_within w i h =
      all_span (λ m. w (read base m) ≤ largest w (poly_of base s)) s 0 (records s)
      (all_decoded (λ m. w m ≤ largest w (poly_of base s)) (span s 0 (records s))
      (subst (All (λ m. w m ≤ largest w (poly_of base s))) (poly_decoded base s) (largest_all w (poly_of base s))))
      i
      (omega arith)
      (omega arith)
    where
      all_decoded : (P : (Letters 4).Mon → Type 0) (f : Poly Numbers) → All P (decoded_poly base f) → All {K = Numbers} (λ m. P (read base m)) f
      all_decoded P [] a = tt
      all_decoded P (u ∷ f) a = (a.0, all_decoded P f a.1)
