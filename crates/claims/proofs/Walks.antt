-- What the walks of division and of the divide test say of all polynomials, of any size.
--
--   DivisionSays         division: its replies; with 0 the only pair f ≡ q · g + r; of a multiple of g the quotient; where it stops, why
--   division-says        the walk of division says so
--   TestSays             the divide test: yes, no or no room, and what each says of every polynomial; where it stops, why
--   test-says            the walk of the divide test says so
use Prim.Native.Nat.{ℕ, ◌+◌, ◌<◌, ◌≤◌}
use mathlib.Core.Path.{◌≡◌, refl, ◌∙◌, ap, subst}
use mathlib.Core.Bool.{Bool, true, false}
use mathlib.Core.List.{[], ◌∷◌, ◌++◌, append-nil}
use mathlib.Core.Logic.{◌⊎◌, inl, inr}
use native.Mathlib.Decide.{dec_lt, ℕ_discrete}
use native.Mathlib.Omega.{arith}
use lib.Dec.{ltb}
use lib.ListN.{length, length-append}
use borrow.Author.Tests.{ltb-true, ltb-false}
use Rattle.algebra.specs.Residues.{Same, Prime, pick, first}
use Rattle.algebra.specs.Monomials.{Letters, exponent}
use Rattle.algebra.specs.Orders.{Lex, exponents, exponent_adds}
use Rattle.algebra.specs.Polynomials.{Term, Poly, coef, Equal, NoMultiple, mul, largest, norm, All, Normal}
use Rattle.algebra.specs.Walk.{Judges, Walked, unfinished, walk}
use Rattle.algebra.proofs.Scan.{first_hit, first_miss}
use Rattle.algebra.proofs.NormalForm.{Small, reduced_small}
use Rattle.algebra.proofs.All.{all_map}
use Rattle.algebra.proofs.Tests.{never}
use Rattle.algebra.proofs.Degrees.{largest_most, factor_weight}
use Rattle.algebra.proofs.Walk.{walk-divides}
use Rattle.algebra.proofs.WalkEnds.{Judged, Heights, walk_finishes, walk_no_remainder, walk_passed, walk_met}
use Rattle.algebra.proofs.WalkVerdicts.{done-divides, done-only, next-coef, refused-term, exact_none, exact_done, Trouble, stop_trouble}
use Rattle.monomial.specs.Layout.{base, fits, divides}
use Rattle.monomial.proofs.Fields.{fits_letters, divides_letters, factor_fits, divides-fits}
use Rattle.monomial.proofs.Laws.{write, fit, word_monomial, monomial_below}
use Rattle.judges.specs.Stops.{Over, StoppedAt, DivisionDue, TestDue}
use Rattle.poly.specs.Profiles.{maxima}
use Rattle.judges.specs.Judges.{unless_full, division_judges, test_judges, steps}
use Rattle.poly.proofs.Maxima.{every_letter, letters_fit, maxima-exponent}
use Rattle.claims.proofs.Heights.{heights}

-- Letters

-- exponents of t plus M(g, v), letter by letter
sum_letter : (g : Poly (Letters 4)) (m : (Letters 4).Mon) (v : ℕ) → v < 4 → exponent 4 v ((Letters 4).mul m (maxima g)) ≡ exponent 4 v m + largest (exponent 4 v) g
sum_letter g m v h = exponent_adds 4 v m (maxima g) ∙ ap (λ (x : ℕ). exponent 4 v m + x) (maxima-exponent g v h)

-- the test of one letter
abbrev over_at : (Letters 4).Mon → (ℕ → ℕ) → ℕ → Bool
over_at m b v = ltb (b v) (exponent 4 v m)

-- where not every letter keeps its bound, one is over it
some_over : (m : (Letters 4).Mon) (b : ℕ → ℕ) → (((v : ℕ) → exponent 4 v m ≤ b v) → ⊥) → Over m b
some_over m b n =
    let v = first (over_at m b) 0 4 in
    elim (dec_lt v 4) [
      | yes l ↦ record { letter = v; one_of_four = l; over = ltb-true (b v) _ (first_hit (over_at m b) 0 4 l) }
      | no l ↦ absurd (n (every_letter m b (λ k h. ltb-false (b k) _ (first_miss (over_at m b) 0 4 {j = k} (omega arith) (omega arith)))))
    ]

not_over : (m : (Letters 4).Mon) (b : ℕ → ℕ) → ((v : ℕ) → exponent 4 v m ≤ b v) → Over m b → ⊥
not_over m b h o = let k = h o.letter in omega (arith, o.over)

-- What a judge's reply tells: its test failed, or it passed and the room is full.

judged : (b : Bool) (i q n k : ℕ) → (k ≡ 0 → ⊥) → k ≡ pick b (unless_full i q 10) n → ((k ≡ n) × (b ≡ false)) ⊎ ((k ≡ 10) × (b ≡ true) × (q ≤ i))
judged false i q n k z e = inl (e, refl)
judged true i q n k z e = go (ltb i q) refl e
  where
    go : (b : Bool) → ltb i q ≡ b → k ≡ pick b 0 10 → ((k ≡ n) × (true ≡ false)) ⊎ ((k ≡ 10) × (true ≡ true) × (q ≤ i))
    go true t d = absurd (z d)
    go false t d = inr (d, refl, ltb-false i q t)

judged-room : (j r n k : ℕ) → (k ≡ 0 → ⊥) → k ≡ unless_full j r n → (k ≡ n) × (r ≤ j)
judged-room j r n k z e = go (ltb j r) refl e
  where
    go : (b : Bool) → ltb j r ≡ b → k ≡ pick b 0 n → (k ≡ n) × (r ≤ j)
    go true t d = absurd (z d)
    go false t d = (d, ltb-false j r t)

-- the reply is 0 only where the test holds
passed_test : (b : Bool) (n m : ℕ) → (m ≡ 0 → ⊥) → pick b n m ≡ 0 → b ≡ true
passed_test true n m k e = refl
passed_test false n m k e = absurd (k e)

-- What is said of a walk w down f by g, whose lead monomial is given

pub record DivisionSays (p : ℕ) (f g : Poly (Letters 4)) (lead : (Letters 4).Mon) (q r : ℕ) (w : Walked (Letters 4)) : Type 0 where
  pub replies : (w.reply ≡ 0) ⊎ (8 < w.reply)
  pub quotient_fits : All (λ m. fit base m ≡ true) w.quotient
  pub remainder_fits : All (λ m. fit base m ≡ true) w.remainder
  pub normal : Normal (Lex 4) p w.quotient × Normal (Lex 4) p w.remainder
  pub equation : w.reply ≡ 0 → Equal p f (mul w.quotient g ++ w.remainder) × NoMultiple p lead w.remainder
  pub only : w.reply ≡ 0 → (q' r' : Poly (Letters 4)) → Equal p f (mul q' g ++ r') → NoMultiple p lead r' → Equal p w.quotient q' × Equal p w.remainder r'
  pub exact : (h : Poly (Letters 4)) → Equal p f (mul h g) → ((w.reply ≡ 0) × (w.quotient ≡ norm (Lex 4) p h) × (w.remainder ≡ [])) ⊎ ((w.reply ≡ 10) × (q < length (norm (Lex 4) p h)))
  pub stops : (w.reply ≡ 0 → ⊥) → (l : StoppedAt p f g w) × DivisionDue g lead q r (length w.quotient) (length w.remainder) l.at.mon w.reply

pub record TestSays (p : ℕ) (f g : Poly (Letters 4)) (lead : (Letters 4).Mon) (q : ℕ) (w : Walked (Letters 4)) : Type 0 where
  pub replies : (w.reply ≡ 0) ⊎ ((w.reply ≡ 10) ⊎ (w.reply ≡ 12))
  pub quotient_fits : All (λ m. fit base m ≡ true) w.quotient
  pub yes : w.reply ≡ 0 → Equal p f (mul w.quotient g)
  pub no : w.reply ≡ 12 → (h : Poly (Letters 4)) → Equal p f (mul h g) → ⊥
  pub full : w.reply ≡ 10 → (h : Poly (Letters 4)) → Equal p f (mul h g) → q < length (norm (Lex 4) p h)
  pub stops : (w.reply ≡ 0 → ⊥) → (l : StoppedAt p f g w) × TestDue f g lead q (length w.quotient) l.at.mon w.reply

module _ {p : ℕ} (P : Prime p) (lead : Term (Letters 4)) (later : Poly (Letters 4)) (ng : Normal (Lex 4) p (lead ∷ later)) (f : Poly (Letters 4))
    (nf : Normal (Lex 4) p f) (ff : All (λ m. fit base m ≡ true) f) where
  abbrev divisor : Poly (Letters 4)
  divisor = lead ∷ later

  small : Small p f
  small = reduced_small p f nf.reduced

  under : All (λ m. (fit base m ≡ true) × (write base m < steps)) f
  unfolding steps
  under = all_map (λ m h. (h, monomial_below base (write base m) (word_monomial base m h))) f ff

  weights : (v : ℕ) → largest (exponent 4 v) f ≤ 32767
  weights v = largest_most (exponent 4 v) 32767 f (all_map (λ m h. (fits_letters 16 4 m).0 h v) f ff)

  maxima_fit : fit base (maxima f) ≡ true
  maxima_fit = letters_fit (maxima f) (λ v l. omega (arith, maxima-exponent f v l, weights v))

  -- in each letter, a term of a true quotient has room under f's largest exponent
  room-left : (h : Poly (Letters 4)) → Equal p f (mul h divisor) → (m : (Letters 4).Mon) → (Same p (coef h m) 0 → ⊥) → (v : ℕ) → v < 4 →
      exponent 4 v ((Letters 4).mul m (maxima divisor)) ≤ largest (exponent 4 v) f
  room-left h d m c v l = omega (arith, sum_letter divisor m v l, factor_weight (Lex 4) (exponents 4 v) P f h lead later nf ng d m c)

  -- what stopped a walk, by any judges
  module _ (J : Judges (Letters 4)) (ends : (walk (Lex 4) p lead later J steps 0 0 f).reply ≡ unfinished → ⊥) where
    abbrev walked : Walked (Letters 4)
    walked = walk (Lex 4) p lead later J steps 0 0 f

    trouble : (walked.reply ≡ 0 → ⊥) → Trouble (Lex 4) p lead later J f walked.quotient walked.remainder walked.reply
    trouble z = stop_trouble (Lex 4) P lead later ng J steps f nf.falling small z ends

    abbrev left : Trouble (Lex 4) p lead later J f walked.quotient walked.remainder walked.reply → StoppedAt p f divisor walked
    left t = record { at = t.at; below = t.below; equation = t.equation; falling = t.falling; nonzero = t.nonzero }

    -- of a multiple of g, the next term of the quotient, which its judge refused
    refused : (h : Poly (Letters 4)) → Equal p f (mul h divisor) → (walked.reply ≡ 0 → ⊥) →
        (t : Term (Letters 4)) × (k : Poly (Letters 4)) × (norm (Lex 4) p h ≡ walked.quotient ++ t ∷ k) × (walked.reply ≡ J.on_quotient (length walked.quotient) t)
    refused h d z = refused-term (Lex 4) P lead later ng J steps f nf.falling small h d z ends

    -- its exponents plus M(g, v) are at most M(f, v)
    refused-room : (h : Poly (Letters 4)) (d : Equal p f (mul h divisor)) (t : Term (Letters 4)) (k : Poly (Letters 4)) →
        norm (Lex 4) p h ≡ walked.quotient ++ t ∷ k → (v : ℕ) → v < 4 → exponent 4 v ((Letters 4).mul t.mon (maxima divisor)) ≤ largest (exponent 4 v) f
    refused-room h d t k e = room-left h d t.mon (next-coef (Lex 4) P lead later ng J steps f nf.falling small h d walked.quotient t k e)

    longer : (h : Poly (Letters 4)) (t : Term (Letters 4)) (k : Poly (Letters 4)) → norm (Lex 4) p h ≡ walked.quotient ++ t ∷ k → length walked.quotient < length (norm (Lex 4) p h)
    longer h t k e = omega (arith, ap length e, length-append walked.quotient (t ∷ k))

  -- Division

  module _ (q r : ℕ) where
    abbrev divide : Judges (Letters 4)
    divide = division_judges divisor q r

    abbrev division : Walked (Letters 4)
    division = walk (Lex 4) p lead later divide steps 0 0 f

    -- exponents that burst, or the mask's test
    fits_not : (m : (Letters 4).Mon) → fits 16 4 m ≡ false → Over m (λ v. 32767)
    fits_not m e = some_over m (λ v. 32767) (λ h. never ((fits_letters 16 4 m).1 h) e)

    fits_so : (m : (Letters 4).Mon) → fits 16 4 m ≡ true → Over m (λ v. 32767) → ⊥
    fits_so m e = not_over m (λ v. 32767) ((fits_letters 16 4 m).0 e)

    division_height : Heights (Lex 4) later divide
    division_height = heights f divisor q r false maxima_fit lead later refl

    division-ends : division.reply ≡ unfinished → ⊥
    unfolding heights division_height
    division-ends = walk_finishes (Lex 4) P lead later ng divide division_height steps 0 0 f nf.falling under

    -- a quotient term that passed has products that fit
    division_passed : (i : ℕ) (t : Term (Letters 4)) → divide.on_quotient i t ≡ 0 → fit base t.mon ≡ true
    division_passed i t e =
        factor_fits 16 4 t.mon (maxima divisor) (passed_test (fits 16 4 ((Letters 4).mul t.mon (maxima divisor))) (unless_full i q 10) 9 (λ z. omega arith) e)

    division_met : All (λ m. fit base m ≡ true) division.remainder
    unfolding heights division_height
    division_met = walk_met (Lex 4) P lead later divide division_height.Good division_height.passes steps 0 0 f ff

    division_stops : (division.reply ≡ 0 → ⊥) →
        (l : StoppedAt p f divisor division) × DivisionDue divisor lead.mon q r (length division.quotient) (length division.remainder) l.at.mon division.reply
    division_stops z =
        let t = trouble divide division-ends z in
        (left divide division-ends t, due t.at (length division.quotient) (length division.remainder) division.reply z t.judged)
      where
        by_test : (at m : (Letters 4).Mon) → (Letters 4).mul lead.mon m ≡ at → (i j n : ℕ) →
            ((n ≡ 9) × (fits 16 4 ((Letters 4).mul m (maxima divisor)) ≡ false))
            ⊎ ((n ≡ 10) × (fits 16 4 ((Letters 4).mul m (maxima divisor)) ≡ true) × (q ≤ i)) → DivisionDue divisor lead.mon q r i j at n
        by_test at m e i j n (inl x) = inl (x.0, m, e, fits_not ((Letters 4).mul m (maxima divisor)) x.1)
        by_test at m e i j n (inr x) = inr (inl (x.0, m, e, fits_so ((Letters 4).mul m (maxima divisor)) x.1, x.2))

        due : (u : Term (Letters 4)) (i j n : ℕ) → (n ≡ 0 → ⊥) → Judged (Lex 4) p lead later divide i j u n → DivisionDue divisor lead.mon q r i j u.mon n
        due u i j n z (inl x) = by_test u.mon x.0.0 x.0.1 i j n (judged (fits 16 4 ((Letters 4).mul x.0.0 (maxima divisor))) i q 9 n z x.1)
        due u i j n z (inr x) = let k = judged-room j r 11 n z x.1 in inr (inr (k.0, (λ m e. x.0 (m, e)), k.1))

    division_exact : (h : Poly (Letters 4)) → Equal p f (mul h divisor) →
        ((division.reply ≡ 0) × (division.quotient ≡ norm (Lex 4) p h) × (division.remainder ≡ [])) ⊎ ((division.reply ≡ 10) × (q < length (norm (Lex 4) p h)))
    division_exact h d = elim (ℕ_discrete division.reply 0) [
      | yes e ↦ inl (e, exact_done (Lex 4) P lead later ng divide steps f nf.falling small h d e, exact_none (Lex 4) P lead later ng divide steps f nf.falling small h d)
      | no z ↦
          let t = refused divide division-ends h d z in
          let m = (Letters 4).mul t.0.mon (maxima divisor) in
          let room = refused-room divide division-ends h d t.0 t.1 t.2 in
          let good : fits 16 4 m ≡ true = letters_fit m (λ v l. omega (arith, room v l, weights v)) in
          let x = full m good division.reply (length division.quotient) z t.3 in
          inr (x.0, omega (arith, x.1, longer divide division-ends h t.0 t.1 t.2))
    ]
      where
        full : (m : (Letters 4).Mon) → fits 16 4 m ≡ true → (n i : ℕ) → (n ≡ 0 → ⊥) → n ≡ pick (fits 16 4 m) (unless_full i q 10) 9 → (n ≡ 10) × (q ≤ i)
        full m good n i z e = judged-room i q 10 n z (e ∙ ap (λ (b : Bool). pick b (unless_full i q 10) 9) good)

    division_replies : (division.reply ≡ 0) ⊎ (8 < division.reply)
    division_replies = elim (ℕ_discrete division.reply 0) [ yes e ↦ inl e | no z ↦ inr (over (division_stops z).1) ]
      where
        over : {at : (Letters 4).Mon} {i j n : ℕ} → DivisionDue divisor lead.mon q r i j at n → 8 < n
        over (inl x) = omega (arith, x.0)
        over (inr (inl x)) = omega (arith, x.0)
        over (inr (inr x)) = omega (arith, x.0)

    pub division-says : DivisionSays p f divisor lead.mon q r division
    division-says =
        record {
          replies = division_replies;
          quotient_fits = walk_passed (Lex 4) p lead later divide (λ m. fit base m ≡ true) division_passed steps 0 0 f;
          remainder_fits = division_met;
          normal = let d = walk-divides (Lex 4) P lead later ng divide steps 0 0 f nf.falling small in (d.quotient_normal, d.remainder_normal);
          equation = done-divides (Lex 4) P lead later ng divide steps f nf.falling small;
          only = done-only (Lex 4) P lead later ng divide steps f nf.falling small;
          exact = division_exact;
          stops = division_stops;
        }

  -- The divide test

  module _ (q : ℕ) where
    abbrev test : Judges (Letters 4)
    test = test_judges f divisor q

    abbrev tested : Walked (Letters 4)
    tested = walk (Lex 4) p lead later test steps 0 0 f

    -- the degree stop lets pass what has room under M(f, v)
    abbrev room : (Letters 4).Mon → Bool
    room m = divides 4 ((Letters 4).mul m (maxima divisor)) (maxima f)

    room_letters : (m : (Letters 4).Mon) → room m ≡ true → (v : ℕ) → v < 4 → exponent 4 v ((Letters 4).mul m (maxima divisor)) ≤ largest (exponent 4 v) f
    room_letters m e v l = omega (arith, (divides_letters 4 ((Letters 4).mul m (maxima divisor)) (maxima f)).0 e v, maxima-exponent f v l)

    letters_room : (m : (Letters 4).Mon) → ((v : ℕ) → v < 4 → exponent 4 v ((Letters 4).mul m (maxima divisor)) ≤ largest (exponent 4 v) f) → room m ≡ true
    letters_room m h =
        (divides_letters 4 ((Letters 4).mul m (maxima divisor)) (maxima f)).1
        (every_letter ((Letters 4).mul m (maxima divisor)) (λ v. exponent 4 v (maxima f)) (λ v l. omega (arith, h v l, maxima-exponent f v l)))

    test_height : Heights (Lex 4) later test
    test_height = heights f divisor q 0 true maxima_fit lead later refl

    test-ends : tested.reply ≡ unfinished → ⊥
    unfolding heights test_height
    test-ends = walk_finishes (Lex 4) P lead later ng test test_height steps 0 0 f nf.falling under

    test_passed : (i : ℕ) (t : Term (Letters 4)) → test.on_quotient i t ≡ 0 → fit base t.mon ≡ true
    test_passed i t e =
        factor_fits 16 4 t.mon (maxima divisor)
        (divides-fits 16 4 ((Letters 4).mul t.mon (maxima divisor)) (maxima f) (passed_test (room t.mon) (unless_full i q 10) 12 (λ z. omega arith) e) maxima_fit)

    test_stops : (tested.reply ≡ 0 → ⊥) → (l : StoppedAt p f divisor tested) × TestDue f divisor lead.mon q (length tested.quotient) l.at.mon tested.reply
    test_stops z =
        let t = trouble test test-ends z in
        (left test test-ends t, due t.at (length tested.quotient) (length tested.remainder) tested.reply z t.judged)
      where
        by_test : (at m : (Letters 4).Mon) → (Letters 4).mul lead.mon m ≡ at → (i n : ℕ) →
            ((n ≡ 12) × (room m ≡ false)) ⊎ ((n ≡ 10) × (room m ≡ true) × (q ≤ i)) → TestDue f divisor lead.mon q i at n
        by_test at m e i n (inl x) = inl (x.0, m, e, some_over ((Letters 4).mul m (maxima divisor)) (λ v. largest (exponent 4 v) f) (λ h. never (letters_room m (λ v l. h v)) x.1))
        by_test at m e i n (inr x) =
            inr (inl (x.0, m, e, (λ o. let k = room_letters m x.1 o.letter o.one_of_four in omega (arith, o.over)), x.2))

        due : (u : Term (Letters 4)) (i j n : ℕ) → (n ≡ 0 → ⊥) → Judged (Lex 4) p lead later test i j u n → TestDue f divisor lead.mon q i u.mon n
        due u i j n z (inl x) = by_test u.mon x.0.0 x.0.1 i n (judged (room x.0.0) i q 12 n z x.1)
        due u i j n z (inr x) = inr (inr (x.1, λ m e. x.0 (m, e)))

    test_replies : (tested.reply ≡ 0) ⊎ ((tested.reply ≡ 10) ⊎ (tested.reply ≡ 12))
    test_replies = elim (ℕ_discrete tested.reply 0) [ yes e ↦ inl e | no z ↦ inr (told (test_stops z).1) ]
      where
        told : {at : (Letters 4).Mon} {i n : ℕ} → TestDue f divisor lead.mon q i at n → (n ≡ 10) ⊎ (n ≡ 12)
        told (inl x) = inr x.0
        told (inr (inl x)) = inl x.0
        told (inr (inr x)) = inr x.0

    test_yes : tested.reply ≡ 0 → Equal p f (mul tested.quotient divisor)
    test_yes e =
        let none : tested.remainder ≡ [] = walk_no_remainder (Lex 4) p lead later test (λ j u z. omega arith) steps 0 0 f in
        subst (Equal p f) (ap (λ (k : Poly (Letters 4)). mul tested.quotient divisor ++ k) none ∙ append-nil (mul tested.quotient divisor))
        (done-divides (Lex 4) P lead later ng test steps f nf.falling small e).0

    -- a multiple of g is stopped by a full room alone
    test_exact : (h : Poly (Letters 4)) → Equal p f (mul h divisor) → (tested.reply ≡ 0 → ⊥) → (tested.reply ≡ 10) × (q < length (norm (Lex 4) p h))
    test_exact h d z =
        let t = refused test test-ends h d z in
        let x = full t.0.mon (letters_room t.0.mon (refused-room test test-ends h d t.0 t.1 t.2)) tested.reply (length tested.quotient) z t.3 in
        (x.0, omega (arith, x.1, longer test test-ends h t.0 t.1 t.2))
      where
        full : (m : (Letters 4).Mon) → room m ≡ true → (n i : ℕ) → (n ≡ 0 → ⊥) → n ≡ pick (room m) (unless_full i q 10) 12 → (n ≡ 10) × (q ≤ i)
        full m good n i z e = judged-room i q 10 n z (e ∙ ap (λ (b : Bool). pick b (unless_full i q 10) 12) good)

    pub test-says : TestSays p f divisor lead.mon q tested
    test-says =
        record {
          replies = test_replies;
          quotient_fits = walk_passed (Lex 4) p lead later test (λ m. fit base m ≡ true) test_passed steps 0 0 f;
          yes = test_yes;
          no = λ e h d. let x = test_exact h d (λ z. omega arith) in omega (arith, x.0);
          full = λ e h d. (test_exact h d (λ z. omega arith)).1;
          stops = test_stops;
        }
