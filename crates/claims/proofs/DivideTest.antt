-- What is claimed of the divide test, shown of its contract as the check generates it from the source.
--
--   test_refuses       each of 1 to 8 is told exactly when it is the first due of the ordered rules
--   test_replies       0, 10 and 12 exactly when none of them is due and the walk ends so
--   test_answers       where none of them is due, the reply is 0, 10 or 12: yes, no room, or no
--   test_good          unless one of 1 to 8 is told, modulus, inputs, divisor and work are good
--   test-refused       room and work after every refusal
--   test-cleared       10 and 12 carry no operand, no term and no count
--   test_written       with 0 the work is all zero, the count is that of the polynomial in the room, zero words behind it
--   test_yes           0: the quotient times g is f
--   test_no            12: no polynomial of any size times g is f
--   test_full          10: every polynomial of any size that times g is f has more terms than the room
--   test_stops         10 and 12: the term at which the walk stopped, and why
--   test-exponents     9 is never told
--   test_exact         a dividend that g divides exactly does not meet the degree stop wrongly
use Prim.Native.Nat.{ℕ, ◌-◌, ◌*◌, ◌<◌, ◌≤◌}
use mathlib.Core.Path.{◌≡◌, refl, sym, ◌∙◌, ap, subst}
use mathlib.Core.List.{List, [], ◌∷◌}
use mathlib.Core.Logic.{◌⊎◌, inl, inr, ◌↔◌}
use native.Mathlib.Omega.{arith}
use lib.ListN.{length}
use Rattle.algebra.specs.Residues.{Prime}
use Rattle.algebra.specs.Monomials.{Letters}
use Rattle.algebra.specs.Orders.{Lex}
use Rattle.algebra.specs.Polynomials.{Poly, Normal}
use Rattle.moduli.specs.Moduli.{limit}
use Rattle.monomial.specs.Layout.{base}
use Rattle.poly.specs.Words.{records, term_at, terms, poly_of, words_of, filled, cleared}
use Rattle.poly.specs.Valid.{Valid}
use Rattle.poly.proofs.Readings.{valid_normal, valid_fits}
use Rattle.poly.proofs.Transport.{filled_poly}
use Rattle.refusals.specs.Reports.{refusal, done, FirstDue}
use Rattle.refusals.specs.Rules.{lent, input_terms}
use Rattle.refusals.specs.declared.report.Report.{Report}
use Rattle.calls.specs.Outcomes.{outcome}
use Rattle.calls.proofs.Endings.{first_of, Ends, told-stopped, told-finished, refuses, replies, ends_unchanged, ends-cleared, ends_written}
use Rattle.judges.specs.Judges.{test_judges, walk_by}
use Rattle.judges.specs.Stops.{StoppedAt, TestDue}
use Rattle.walk.proofs.Runs.{divisor-terms}
use Rattle.division.specs.Division.{test_rules, test_of}
use Rattle.quotients.specs.Quotients.{test_walk}
use Rattle.division.proofs.Walkable.{Walkable, rules_walkable}
use Rattle.division.proofs.test.divides.Reads as call
use Rattle.claims.specs.Demands.{P, Afterwards, front, lead, Factor, term_count}
use Rattle.claims.proofs.Walks.{TestSays, test-says}
use Rattle.claims.proofs.Division.{divisions_within}

-- From the definition

module _ (p : ℕ) (f g q work : List ℕ) where
  abbrev F : P
  F = poly_of base f

  abbrev G : P
  G = poly_of base g

  abbrev pub Passes : Type 0
  Passes = (first_of (test_rules p f g q work)).number ≡ 0

  walkable : Passes → Walkable p f g q work
  walkable z = (rules_walkable p f g q work [] refl z).0

  says : Passes → TestSays p F G (lead g) (records q) (test_walk p f g q)
  says z =
      let c = walkable z in
      let split = divisor-terms g c.some in
      subst (λ (k : P). TestSays p F k (lead g) (records q) (walk_by p (test_judges F k (records q)) F k)) (sym split)
      (test-says c.good.prime (term_at base g 0) (terms base g 1 (records g - 1)) (subst (Normal (Lex 4) p) split (valid_normal p g c.good.second)) F
      (valid_normal p f c.good.first) (valid_fits p f c.good.first) (records q))

-- From the contract

module _ (κs : _) (x : _) (t : _) (s : _) (post : call.Post κs x t s) where
  abbrev p : ℕ
  p = x.0

  abbrev f : List ℕ
  f = x.1.0.now

  abbrev g : List ℕ
  g = x.1.1.0.now

  abbrev q : List ℕ
  q = x.1.1.1.0.now

  abbrev work : List ℕ
  work = x.1.1.1.1.0.now

  -- the room and the work afterwards
  abbrev q' : List ℕ
  q' = s.1.1.1.0.now

  abbrev work' : List ℕ
  work' = s.1.1.1.1.0.now

  ended : Ends (test_rules p f g q work) (test_walk p f g q).reply (test_walk p f g q).quotient [] q [] work (outcome t q' [] work')
  unfolding test_of
  ended =
      record {
        due_within = divisions_within p f g q work (lent 3 q input_terms ∷ []);
        reply_over = λ z. over (says p f g q work z).replies;
        ended = post;
      }
    where
      over : {n : ℕ} → (n ≡ 0) ⊎ ((n ≡ 10) ⊎ (n ≡ 12)) → (n ≡ 0) ⊎ (8 < n)
      over (inl e) = inl e
      over (inr (inl e)) = inr (omega arith)
      over (inr (inr e)) = inr (omega arith)

  pub test_refuses : (n : Report) → 0 < n.number → n.number ≤ 8 → (t ≡ n) ↔ FirstDue (test_rules p f g q work) n
  test_refuses = refuses ended

  -- The other replies are those of the walk.
  pub test_replies : (n : ℕ) → (n ≡ 0) ⊎ (8 < n) → (t.number ≡ n) ↔ (Passes p f g q work × ((test_walk p f g q).reply ≡ n))
  test_replies = replies ended

  -- Unless one of 1 to 8 is due, the test says yes, no, or no room.
  pub test_answers : Passes p f g q work → (t.number ≡ 0) ⊎ ((t.number ≡ 10) ⊎ (t.number ≡ 12))
  test_answers z = go (says p f g q work z).replies
    where
      go : ((test_walk p f g q).reply ≡ 0) ⊎ (((test_walk p f g q).reply ≡ 10) ⊎ ((test_walk p f g q).reply ≡ 12)) → (t.number ≡ 0) ⊎ ((t.number ≡ 10) ⊎ (t.number ≡ 12))
      go (inl e) = inl ((test_replies 0 (inl refl)).1 (z, e))
      go (inr (inl e)) = inr (inl ((test_replies 10 (inr (omega arith))).1 (z, e)))
      go (inr (inr e)) = inr (inr ((test_replies 12 (inr (omega arith))).1 (z, e)))

  pub test_good : (t.number ≡ 0) ⊎ (8 < t.number) →
      Prime p × (p ≤ limit) × Valid p f × Valid p g × (0 < records g) × (4 * records q ≤ length work)
  test_good c =
      let d = walkable p f g q work ((test_replies t.number c).0 refl).0 in
      (d.good.prime, d.good.within, d.good.first, d.good.second, d.some, d.long)

  -- Output and work afterwards

  pub test-refused : Afterwards t.number q q' × Afterwards t.number work work'
  test-refused = (
    record { unchanged = λ h k. (ends_unchanged ended h k).0; zero = λ h. (ends-cleared ended h).1 },
    record { unchanged = λ h k. (ends_unchanged ended h k).2; zero = λ h. (ends-cleared ended h).3 },
  )

  pub test-cleared : 8 < t.number → t ≡ refusal t.number 0 0
  test-cleared h = (ends-cleared ended h).0

  -- What yes, no and no room say of all polynomials, of any size

  -- the polynomial in the room
  abbrev in_room : Poly (Letters 4)
  in_room = front t.first q'

  room-quotient : t.number ≡ 0 → in_room ≡ (test_walk p f g q).quotient
  room-quotient h =
      let o = ends_written ended h in
      (λ d. front (o.0 d).first (o.1 d)) ∙ filled_poly (test_walk p f g q).quotient (length q) (says p f g q work (told-finished ended h).0).quotient_fits

  pub test_written : t.number ≡ 0 → (t ≡ done (length in_room) 0) × (q' ≡ filled (length q) (words_of base in_room)) × (work' ≡ cleared work)
  test_written h =
      let o = ends_written ended h in
      let e = sym (room-quotient h) in
      (o.0 ∙ ap (λ (k : Poly (Letters 4)). done (length k) 0) e, o.1 ∙ ap (λ (k : Poly (Letters 4)). filled (length q) (words_of base k)) e, o.3)

  -- Yes: the quotient times g is f.
  pub test_yes : t.number ≡ 0 → Factor p (poly_of base f) (poly_of base g) in_room
  test_yes h =
      let w = told-finished ended h in
      subst (λ (k : Poly (Letters 4)). Factor p (poly_of base f) (poly_of base g) k) (sym (room-quotient h)) ((says p f g q work w.0).yes w.1)

  -- No: no polynomial of any size times g is f.
  pub test_no : t.number ≡ 12 → (h : P) → Factor p (poly_of base f) (poly_of base g) h → ⊥
  test_no h = let w = told-stopped ended (omega arith) in (says p f g q work w.0).no (w.1 ∙ h)

  -- No room: every polynomial of any size that times g is f has more terms than the room.
  pub test_full : t.number ≡ 10 → (h : P) → Factor p (poly_of base f) (poly_of base g) h → records q < term_count p h
  test_full h = let w = told-stopped ended (omega arith) in (says p f g q work w.0).full (w.1 ∙ h)

  -- 12 where g's lead monomial does not divide the greatest term left, or its quotient exceeds M(f, v); else 10 where the room is full.
  pub test_stops : 8 < t.number →
      (l : StoppedAt p (poly_of base f) (poly_of base g) (test_walk p f g q)) × TestDue (poly_of base f) (poly_of base g) (lead g) (records q) (length (test_walk p f g q).quotient) l.at.mon t.number
  test_stops h =
      let w = told-stopped ended h in
      let l = (says p f g q work w.0).stops (λ z. omega arith) in
      (l.0, subst (TestDue (poly_of base f) (poly_of base g) (lead g) (records q) (length (test_walk p f g q).quotient) l.0.at.mon) w.1 l.1)

  -- It never refuses for a big exponent.
  pub test-exponents : t.number ≡ 9 → ⊥
  test-exponents e = go (test_answers ((test_replies 9 (inr (omega arith))).0 e).0)
    where
      go : (t.number ≡ 0) ⊎ ((t.number ≡ 10) ⊎ (t.number ≡ 12)) → ⊥
      go (inl n) = omega arith
      go (inr (inl n)) = omega arith
      go (inr (inr n)) = omega arith

  -- A dividend that g divides exactly does not meet the degree stop wrongly: yes, or no room where every such polynomial is too long.
  pub test_exact : Passes p f g q work → (h : P) → Factor p (poly_of base f) (poly_of base g) h → (t.number ≡ 0) ⊎ ((t.number ≡ 10) × (records q < term_count p h))
  test_exact z h d = go (test_answers z)
    where
      go : (t.number ≡ 0) ⊎ ((t.number ≡ 10) ⊎ (t.number ≡ 12)) → (t.number ≡ 0) ⊎ ((t.number ≡ 10) × (records q < term_count p h))
      go (inl n) = inl n
      go (inr (inl n)) = inr (n, test_full n h d)
      go (inr (inr n)) = absurd (test_no n h d)
