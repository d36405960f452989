-- What is claimed of the product, shown of its contract as the check generates it from the source.
--
--   product_refuses           each of 1 to 8 is told exactly when it is the first due of the ordered rules
--   product-bursts            9 exactly when none of them is due and M(a, v) + M(b, v) is over 32,767 for some v
--   product-bursts-nonzero    both factors are nonzero then
--   product_full              else 10 exactly when the true product, after cancellation, has more terms than the room
--   product-done              else 0
--   product_good              unless one of 1 to 8 is told, modulus, inputs and work are good
--   product-refused           room and work after every refusal
--   product-cleared           9 and 10 carry no operand, no term and no count
--   product_written           0 carries the terms of the true product; the room has them, then zero words; the work is all zero
--   product-result            with 0, the polynomial in the room is the product
--   product_coefficients      with 0, at every monomial the coefficient is the sum, modulo p, of all a·b whose monomials multiply to it
--   product-count             with 0, every normal polynomial that is the product has as many terms as are told
--   product-zero_factor       if either factor is zero, the product is zero
use Prim.Native.Nat.{ℕ, ◌+◌, ◌*◌, ◌<◌, ◌≤◌, min}
use mathlib.Core.Path.{◌≡◌, refl, sym, ◌∙◌, ap, subst}
use mathlib.Core.Bool.{Bool, true}
use mathlib.Core.List.{List, [], ◌∷◌}
use mathlib.Core.Logic.{◌⊎◌, inl, inr, ◌↔◌}
use native.Mathlib.Nat.{sub-zero, pos_of_ne-zero}
use native.Mathlib.Decide.{dec_lt, dec_le}
use native.Mathlib.Omega.{arith}
use lib.ListN.{length, replicate}
use borrow.Author.Tests.{lt-ltb, le-ltb, le-leb, lt-leb}
use Rattle.algebra.specs.Residues.{Same, Prime, pick}
use Rattle.algebra.specs.Monomials.{Letters, exponent}
use Rattle.algebra.specs.Orders.{Lex}
use Rattle.algebra.specs.Polynomials.{Poly, coef, mul, largest, norm, Equal, Normal}
use Rattle.algebra.proofs.NormalForm.{norm_all, norm_normal, norm_equal, norm_unique, equal_trans, equal_sym, normal_unique}
use Rattle.algebra.proofs.Ring.{mul_comm}
use Rattle.moduli.specs.Moduli.{limit}
use Rattle.monomial.specs.Layout.{base}
use Rattle.monomial.proofs.Laws.{fit}
use Rattle.poly.specs.Words.{records, terms, poly_of, words_of, filled, cleared}
use Rattle.poly.specs.Valid.{Valid}
use Rattle.poly.proofs.Transport.{filled_poly}
use Rattle.poly.proofs.Maxima.{exponents_most}
use Rattle.refusals.specs.Reports.{none, refusal, done, first_or, FirstDue}
use Rattle.refusals.specs.Rules.{lent, room_terms, work_rule}
use Rattle.refusals.specs.declared.report.Report.{Report}
use Rattle.refusals.proofs.Reports.{fold_append, fold_passed}
use Rattle.refusals.proofs.Accepted.{work_passed}
use Rattle.refusals.proofs.Within.{within_append, within_first, refusals_within, work_within}
use Rattle.calls.specs.Inputs.{inputs, two_inputs}
use Rattle.calls.specs.Outcomes.{outcome, room_reply}
use Rattle.calls.proofs.Refusals.{Good, rules_good}
use Rattle.calls.proofs.Endings.{first_of, Ends, told-finished, refuses, replies, ends_unchanged, ends-cleared, ends_written}
use Rattle.expansion.specs.Bursts.{burst_at, Bursts}
use Rattle.product.specs.Products.{product_reply, product_rules, multiplied, product_of}
use Rattle.expansion.proofs.Bursts.{burst_some, no_burst, products-fit}
use Rattle.product.proofs.product.Reads as call
use Rattle.claims.specs.Demands.{P, Afterwards, front, Result, term_count}

-- From the definition

module _ (p : ℕ) (a b room work : List ℕ) where
  abbrev f : P
  f = poly_of base a

  abbrev g : P
  g = poly_of base b

  abbrev product : P
  product = norm (Lex 4) p (mul f g)

  abbrev least : ℕ
  least = 4 * min (records a) (records b)

  -- the rule after 6
  abbrev last : Report
  last = first_or (work_rule least work ∷ []) none

  abbrev pub Passes : Type 0
  Passes = (first_of (product_rules p a b room work)).number ≡ 0

  passes : Passes → Good p a b × (least ≤ length work)
  passes z =
      let e = fold_append (two_inputs p a b room) (work_rule least work ∷ []) none in
      let k = rules_good p a b (lent 3 room room_terms ∷ []) (first_of (product_rules p a b room work)) last e z in
      (k.0, work_passed least work (fold_passed (work_rule least work ∷ []) none k.2).0.0)

  -- Letters that burst

  bursts_below : Bursts a b → burst_at f g < 4
  bursts_below h =
      elim (dec_lt (burst_at f g) 4) [
        | yes l ↦ l
        | no l ↦ absurd (let most = no_burst f g (omega arith) h.letter h.one_of_four in omega (arith, most, h.over))
      ]

  below_bursts : burst_at f g < 4 → Bursts a b
  below_bursts h = record { letter = burst_at f g; one_of_four = h; over = burst_some f g h }

  bursts_not : (Bursts a b → ⊥) → 4 ≤ burst_at f g
  bursts_not n = elim (dec_lt (burst_at f g) 4) [ yes l ↦ absurd (n (below_bursts l)) | no l ↦ omega arith ]

  -- How the call ends

  abbrev reply : ℕ
  reply = product_reply f g product room

  abbrev Crowded : Type 0
  Crowded = (Bursts a b → ⊥) × (records room < length product)

  abbrev Fitting : Type 0
  Fitting = (Bursts a b → ⊥) × (length product ≤ records room)

  is_nine : Bursts a b → reply ≡ 9
  is_nine h = ap (λ (t : Bool). pick t 9 (room_reply (length product) room)) (lt-ltb (burst_at f g) 4 (bursts_below h))

  is_ten : Crowded → reply ≡ 10
  is_ten h = λ d. pick (le-ltb (burst_at f g) 4 (bursts_not h.0) d) 9 (pick (lt-leb (length product) (records room) h.1 d) 0 10)

  is_zero : Fitting → reply ≡ 0
  is_zero h = λ d. pick (le-ltb (burst_at f g) 4 (bursts_not h.0) d) 9 (pick (le-leb (length product) (records room) h.1 d) 0 10)

  data Case : Type 0 where
    bursting : Bursts a b → Case
    crowded : Crowded → Case
    fitting : Fitting → Case

  case : Case
  case = go (dec_lt (burst_at f g) 4) (dec_le (length product) (records room))
    where
      go : Dec (burst_at f g < 4) → Dec (length product ≤ records room) → Case
      go (yes h) l = bursting (below_bursts h)
      go (no h) (yes l) = fitting (λ k. h (bursts_below k), l)
      go (no h) (no l) = crowded (λ k. h (bursts_below k), omega arith)

  -- what each reply says, by the three cases
  reply_nine : reply ≡ 9 → Bursts a b
  reply_nine e = go case
    where
      go : Case → Bursts a b
      go (bursting h) = h
      go (crowded h) = absurd (omega (arith, is_ten h))
      go (fitting h) = absurd (omega (arith, is_zero h))

  reply_ten : reply ≡ 10 → Crowded
  reply_ten e = go case
    where
      go : Case → Crowded
      go (bursting h) = absurd (omega (arith, is_nine h))
      go (crowded h) = h
      go (fitting h) = absurd (omega (arith, is_zero h))

  reply-zero : reply ≡ 0 → Fitting
  reply-zero e = go case
    where
      go : Case → Fitting
      go (bursting h) = absurd (omega (arith, is_nine h))
      go (crowded h) = absurd (omega (arith, is_ten h))
      go (fitting h) = h

  ends : (t : Report) (room' work' : List ℕ) → outcome t room' [] work' ≡ product_of p a b room work →
      Ends (product_rules p a b room work) reply product [] room [] work (outcome t room' [] work')
  unfolding product_of multiplied
  ends t room' work' e =
      record {
        due_within = within_first (product_rules p a b room work)
            (within_append (two_inputs p a b room) (work_rule least work ∷ []) (refusals_within p (inputs a b) (lent 3 room room_terms ∷ [])) (work_within least work, tt));
        reply_over = λ z. over case;
        ended = e;
      }
    where
      over : Case → (reply ≡ 0) ⊎ (8 < reply)
      over (bursting h) = inr (omega (arith, is_nine h))
      over (crowded h) = inr (omega (arith, is_ten h))
      over (fitting h) = inl (is_zero h)

  -- Factors without terms

  poly_none : (s : List ℕ) → records s ≡ 0 → poly_of base s ≡ []
  unfolding poly_of
  poly_none s z = ap (terms base s 0) z

  nonzero : Passes → Bursts a b → (0 < records a) × (0 < records b)
  nonzero z h =
      let v = (passes z).0 in
      let M : P → ℕ = largest (exponent 4 h.letter) in
      let over : 32767 < M f + M g = h.over in
      let first : M f ≤ 32767 = exponents_most p a v.first h.letter in
      let second : M g ≤ 32767 = exponents_most p b v.second h.letter in (
        pos_of_ne-zero (λ n. let zero : M f ≡ 0 = ap M (poly_none a n) in omega arith),
        pos_of_ne-zero (λ n. let zero : M g ≡ 0 = ap M (poly_none b n) in omega arith),
      )

  no_factor : 0 < p → (records a ≡ 0) ⊎ (records b ≡ 0) → product ≡ []
  no_factor pos (inl n) = ap (λ (k : P). norm (Lex 4) p (mul k g)) (poly_none a n)
  no_factor pos (inr n) = norm_unique (Lex 4) pos (mul_comm f g) ∙ ap (λ (k : P). norm (Lex 4) p (mul k f)) (poly_none b n)

-- From the contract

module _ (κs : _) (x : _) (t : _) (s : _) (post : call.Post κs x t s) where
  abbrev p : ℕ
  p = x.0

  abbrev a : List ℕ
  a = x.1.0.now

  abbrev b : List ℕ
  b = x.1.1.0.now

  abbrev room : List ℕ
  room = x.1.1.1.0.now

  abbrev work : List ℕ
  work = x.1.1.1.1.0.now

  -- room and work afterwards
  abbrev room' : List ℕ
  room' = s.1.1.1.0.now

  abbrev work' : List ℕ
  work' = s.1.1.1.1.0.now

  ended : Ends (product_rules p a b room work) (reply p a b room work) (product p a b room work) [] room [] work (outcome t room' [] work')
  ended = ends p a b room work t room' work' post

  pub product_refuses : (n : Report) → 0 < n.number → n.number ≤ 8 → (t ≡ n) ↔ FirstDue (product_rules p a b room work) n
  product_refuses = refuses ended

  pub product-bursts : (t.number ≡ 9) ↔ (Passes p a b room work × Bursts a b)
  product-bursts =
      let n = replies ended 9 (inr (omega arith)) in
      (λ h. let q = n.0 h in (q.0, reply_nine p a b room work q.1), λ h. n.1 (h.0, is_nine p a b room work h.1))

  -- A zero factor never gives 9: the other's exponents are at most 32,767.
  pub product-bursts-nonzero : t.number ≡ 9 → (0 < records a) × (0 < records b)
  product-bursts-nonzero h = let q = product-bursts.0 h in nonzero p a b room work q.0 q.1

  pub product_full : (t.number ≡ 10) ↔ (Passes p a b room work × (Bursts a b → ⊥) × (records room < term_count p (mul (poly_of base a) (poly_of base b))))
  product_full =
      let n = replies ended 10 (inr (omega arith)) in (
        λ h. let q = n.0 h in let u = reply_ten p a b room work q.1 in (q.0, u.0, u.1),
        λ h. n.1 (h.0, is_ten p a b room work (h.1, h.2)),
      )

  pub product-done : (t.number ≡ 0) ↔ (Passes p a b room work × (Bursts a b → ⊥) × (term_count p (mul (poly_of base a) (poly_of base b)) ≤ records room))
  product-done =
      let n = replies ended 0 (inl refl) in (
        λ h. let q = n.0 h in let u = reply-zero p a b room work q.1 in (q.0, u.0, u.1),
        λ h. n.1 (h.0, is_zero p a b room work (h.1, h.2)),
      )

  pub product_good : (t.number ≡ 0) ⊎ (8 < t.number) →
      Prime p × (p ≤ limit) × Valid p a × Valid p b × (4 * min (records a) (records b) ≤ length work)
  product_good c =
      let g = passes p a b room work ((replies ended t.number c).0 refl).0 in
      (g.0.prime, g.0.within, g.0.first, g.0.second, g.1)

  pub product-refused : Afterwards t.number room room' × Afterwards t.number work work'
  product-refused = (
    record { unchanged = λ h k. (ends_unchanged ended h k).0; zero = λ h. (ends-cleared ended h).1 },
    record { unchanged = λ h k. (ends_unchanged ended h k).2; zero = λ h. (ends-cleared ended h).3 },
  )

  pub product-cleared : 8 < t.number → t ≡ refusal t.number 0 0
  product-cleared h = (ends-cleared ended h).0

  pub product_written : t.number ≡ 0 →
      (t ≡ done (term_count p (mul (poly_of base a) (poly_of base b))) 0)
      × (room' ≡ filled (length room) (words_of base (norm (Lex 4) p (mul (poly_of base a) (poly_of base b)))))
      × (work' ≡ cleared work)
  product_written h = let o = ends_written ended h in (o.0, o.1, o.3)

  -- With reply 0

  module _ (z : t.number ≡ 0) where
    positive : 0 < p
    positive = (passes p a b room work (told-finished ended z).0).0.positive

    in_room_lem : front t.first room' ≡ product p a b room work
    in_room_lem =
        let o = ends_written ended z in
        let F : (Letters 4).Mon → Type 0 = λ m. fit base m ≡ true in
        let m = mul (poly_of base a) (poly_of base b) in
        (λ d. front (o.0 d).first (o.1 d))
        ∙ filled_poly (product p a b room work) (length room)
        (norm_all (Lex 4) positive F m (products-fit (poly_of base a) (poly_of base b) (bursts_not p a b room work (product-done.0 z).1)))

    pub product-result : Result p (front t.first room') (mul (poly_of base a) (poly_of base b))
    product-result =
        let m = mul (poly_of base a) (poly_of base b) in
        subst (λ (k : P). Result p k m) (sym in_room_lem) (record { equal = norm_equal (Lex 4) positive m; normal = norm_normal (Lex 4) positive m })

    pub product_coefficients : (m : (Letters 4).Mon) → Same p (coef (front t.first room') m) (coef (mul (poly_of base a) (poly_of base b)) m)
    product_coefficients m = product-result.equal.equal m

    -- Term counts are those of the true result.
    pub product-count : (h : Poly (Letters 4)) → Normal (Lex 4) p h → Equal p h (mul (poly_of base a) (poly_of base b)) → t.first ≡ length h
    product-count h n d =
        let m = mul (poly_of base a) (poly_of base b) in
        ap (λ (y : Report). y.first) (ends_written ended z).0
        ∙ ap length (normal_unique (Lex 4) (product p a b room work) h (norm_normal (Lex 4) positive m) n (equal_trans (norm_equal (Lex 4) positive m) (equal_sym d)))

  -- If either factor is zero, the product is zero.
  pub product-zero_factor : Passes p a b room work → (records a ≡ 0) ⊎ (records b ≡ 0) → (t ≡ done 0 0) × (room' ≡ cleared room) × (work' ≡ cleared work)
  product-zero_factor z n =
      let none : product p a b room work ≡ [] = no_factor p a b room work (passes p a b room work z).0.positive n in
      let fits : length (product p a b room work) ≤ records room = omega (arith, ap length none) in
      let w = product_written (product-done.1 (z, (λ v. both (nonzero p a b room work z v) n), fits)) in (
        w.0 ∙ ap (λ (k : P). done (length k) 0) none,
        w.1 ∙ ap (λ (k : P). filled (length room) (words_of base k)) none ∙ ap (λ (k : ℕ). replicate k 0) (sub-zero (length room)),
        w.2,
      )
    where
      both : (0 < records a) × (0 < records b) → (records a ≡ 0) ⊎ (records b ≡ 0) → ⊥
      both h (inl e) = omega (arith, h.0)
      both h (inr e) = omega (arith, h.1)
