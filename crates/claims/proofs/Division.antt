-- What is claimed of division with remainder, shown of its contract as the check generates it from the source.
--
--   division_refuses     each of 1 to 8 is told exactly when it is the first due of the ordered rules
--   division_replies     0, 9, 10 and 11 exactly when none of them is due and the walk ends so
--   division_answers     where none of them is due, the reply is 0, 9, 10 or 11
--   division_good        unless one of 1 to 8 is told, modulus, inputs, divisor and work are good
--   division-refused     rooms and work after every refusal
--   division-cleared     9, 10 and 11 carry no operand, no term and no count
--   division_written     with 0 the work is all zero, the counts are those of the polynomials in the rooms, zero words behind them
--   division_pair        0: f is the quotient times g plus the remainder, of which no term is divisible by g's lead monomial
--   division_normal      both are in falling order, with coefficients 1 to p − 1
--   division-only        and every two polynomials of any size with these two properties are equal to quotient and remainder
--   division_exact       of a multiple of g: the other factor and remainder zero, or 10 where that factor has more terms than the room
--   division_returns     of a multiple a·g, the words of a where they fit the quotient room
--   division_stops       9, 10 and 11: the term at which the walk stopped, and why
use Prim.Native.Nat.{ℕ, ◌-◌, ◌*◌, ◌<◌, ◌≤◌}
use mathlib.Core.Path.{◌≡◌, refl, sym, ◌∙◌, ap, subst, transport}
use mathlib.Core.List.{List, [], ◌∷◌, ◌++◌}
use mathlib.Core.Logic.{◌⊎◌, inl, inr, ◌↔◌}
use native.Mathlib.Nat.{sub-zero}
use native.Mathlib.Omega.{arith}
use lib.ListN.{length, replicate}
use Rattle.algebra.specs.Residues.{Prime}
use Rattle.algebra.specs.Monomials.{Letters}
use Rattle.algebra.specs.Orders.{Lex}
use Rattle.algebra.specs.Polynomials.{Poly, mul, norm, Equal, Normal}
use Rattle.algebra.proofs.NormalForm.{norm_self}
use Rattle.algebra.proofs.Leads.{prime_positive}
use Rattle.moduli.specs.Moduli.{limit}
use Rattle.monomial.specs.Layout.{base}
use Rattle.poly.specs.Words.{records, term_at, terms, poly_of, words_of, filled, cleared}
use Rattle.poly.specs.Valid.{Valid}
use Rattle.poly.proofs.Readings.{length_poly, valid_normal, valid_fits, valid_words_of}
use Rattle.poly.proofs.Transport.{filled_poly}
use Rattle.refusals.specs.Reports.{refusal, done, FirstDue}
use Rattle.refusals.specs.Rules.{Lent, lent, input_terms, room_terms, refusals}
use Rattle.refusals.specs.declared.report.Report.{Report}
use Rattle.refusals.proofs.Within.{within_append, within_first, refusals_within, divisor_within, work_within}
use Rattle.calls.specs.Inputs.{inputs}
use Rattle.calls.specs.Outcomes.{outcome}
use Rattle.calls.proofs.Endings.{first_of, Ends, told-stopped, told-finished, refuses, replies, ends_unchanged, ends-cleared, ends_written}
use Rattle.judges.specs.Judges.{division_judges, walk_by}
use Rattle.judges.specs.Stops.{StoppedAt, DivisionDue}
use Rattle.walk.proofs.Runs.{divisor-terms}
use Rattle.division.specs.Division.{last_rules, divide_rules, divide_of}
use Rattle.quotients.specs.Quotients.{division_walk}
use Rattle.division.proofs.Walkable.{Walkable, rules_walkable}
use Rattle.division.proofs.division.divide.Reads as call
use Rattle.claims.specs.Demands.{P, Afterwards, front, lead, Pair}
use Rattle.claims.proofs.Walks.{DivisionSays, division-says}

-- From the definition

-- the numbers of 7 and 8, after those of 1 to 6
pub divisions_within : (p : ℕ) (f g q work : List ℕ) (outs : List Lent) → (first_of (refusals base p (inputs f g) outs ++ last_rules g q work)).number ≤ 8
divisions_within p f g q work outs =
    let rules = refusals base p (inputs f g) outs in
    within_first (rules ++ last_rules g q work) (within_append rules (last_rules g q work) (refusals_within p (inputs f g) outs) (divisor_within g, (work_within (4 * records q) work, tt)))

module _ (p : ℕ) (f g q r work : List ℕ) where
  abbrev F : P
  F = poly_of base f

  abbrev G : P
  G = poly_of base g

  abbrev pub Passes : Type 0
  Passes = (first_of (divide_rules p f g q r work)).number ≡ 0

  walkable : Passes → Walkable p f g q work
  walkable z = (rules_walkable p f g q work (lent 4 r room_terms ∷ []) refl z).0

  says : Passes → DivisionSays p F G (lead g) (records q) (records r) (division_walk p f g q r)
  says z =
      let c = walkable z in
      let split = divisor-terms g c.some in
      let says_of : P → Type 0 = λ k. DivisionSays p F k (lead g) (records q) (records r) (walk_by p (division_judges k (records q) (records r)) F k) in
      subst says_of (sym split)
      (division-says c.good.prime (term_at base g 0) (terms base g 1 (records g - 1)) (subst (Normal (Lex 4) p) split (valid_normal p g c.good.second)) F
      (valid_normal p f c.good.first) (valid_fits p f c.good.first) (records q) (records r))

-- From the contract

module _ (κs : _) (x : _) (t : _) (s : _) (post : call.Post κs x t s) where
  abbrev p : ℕ
  p = x.0

  abbrev f : List ℕ
  f = x.1.0.now

  abbrev g : List ℕ
  g = x.1.1.0.now

  abbrev q : List ℕ
  q = x.1.1.1.0.now

  abbrev r : List ℕ
  r = x.1.1.1.1.0.now

  abbrev work : List ℕ
  work = x.1.1.1.1.1.0.now

  -- the rooms and the work afterwards
  abbrev q' : List ℕ
  q' = s.1.1.1.0.now

  abbrev r' : List ℕ
  r' = s.1.1.1.1.0.now

  abbrev work' : List ℕ
  work' = s.1.1.1.1.1.0.now

  ended : let w = division_walk p f g q r in Ends (divide_rules p f g q r work) w.reply w.quotient w.remainder q r work (outcome t q' r' work')
  unfolding divide_of
  ended =
      record {
        due_within = divisions_within p f g q work (lent 3 q input_terms ∷ lent 4 r room_terms ∷ []);
        reply_over = λ z. (says p f g q r work z).replies;
        ended = post;
      }

  pub division_refuses : (n : Report) → 0 < n.number → n.number ≤ 8 → (t ≡ n) ↔ FirstDue (divide_rules p f g q r work) n
  division_refuses = refuses ended

  -- The other replies are those of the walk.
  pub division_replies : (n : ℕ) → (n ≡ 0) ⊎ (8 < n) → (t.number ≡ n) ↔ (Passes p f g q r work × ((division_walk p f g q r).reply ≡ n))
  division_replies = replies ended

  pub division_good : (t.number ≡ 0) ⊎ (8 < t.number) →
      Prime p × (p ≤ limit) × Valid p f × Valid p g × (0 < records g) × (4 * records q ≤ length work)
  division_good c =
      let d = walkable p f g q r work ((division_replies t.number c).0 refl).0 in
      (d.good.prime, d.good.within, d.good.first, d.good.second, d.some, d.long)

  -- Outputs and work afterwards

  pub division-refused : Afterwards t.number q q' × Afterwards t.number r r' × Afterwards t.number work work'
  division-refused = (
    record { unchanged = λ h k. (ends_unchanged ended h k).0; zero = λ h. (ends-cleared ended h).1 },
    record { unchanged = λ h k. (ends_unchanged ended h k).1; zero = λ h. (ends-cleared ended h).2 },
    record { unchanged = λ h k. (ends_unchanged ended h k).2; zero = λ h. (ends-cleared ended h).3 },
  )

  pub division-cleared : 8 < t.number → t ≡ refusal t.number 0 0
  division-cleared h = (ends-cleared ended h).0

  -- the polynomials in the rooms
  abbrev pub quotient : Poly (Letters 4)
  quotient = front t.first q'

  abbrev pub remainder : Poly (Letters 4)
  remainder = front t.second r'

  in_rooms : t.number ≡ 0 → (quotient ≡ (division_walk p f g q r).quotient) × (remainder ≡ (division_walk p f g q r).remainder)
  in_rooms h =
      let o = ends_written ended h in
      let a = says p f g q r work (told-finished ended h).0 in (
        (λ d. front (o.0 d).first (o.1 d)) ∙ filled_poly (division_walk p f g q r).quotient (length q) a.quotient_fits,
        (λ d. front (o.0 d).second (o.2 d)) ∙ filled_poly (division_walk p f g q r).remainder (length r) a.remainder_fits,
      )

  pub division_written : t.number ≡ 0 →
      (t ≡ done (length quotient) (length remainder)) × (q' ≡ filled (length q) (words_of base quotient)) × (r' ≡ filled (length r) (words_of base remainder)) × (work' ≡ cleared work)
  division_written h =
      let o = ends_written ended h in
      let e = in_rooms h in (
        o.0 ∙ (λ d. done (length (sym e.0 d)) (length (sym e.1 d))),
        o.1 ∙ ap (λ (k : Poly (Letters 4)). filled (length q) (words_of base k)) (sym e.0),
        o.2 ∙ ap (λ (k : Poly (Letters 4)). filled (length r) (words_of base k)) (sym e.1),
        o.3,
      )

  -- What reply 0 says of all polynomials, of any size

  -- Quotient and remainder of f by g: f = q·g + r, and no term of r is divisible by g's lead monomial.
  pub division_pair : t.number ≡ 0 → Pair p (poly_of base f) (poly_of base g) (lead g) quotient remainder
  division_pair h =
      let w = told-finished ended h in
      let e = in_rooms h in
      let d = (says p f g q r work w.0).equation w.1 in
      transport (λ i. Pair p (poly_of base f) (poly_of base g) (lead g) (sym e.0 i) (sym e.1 i)) (record { equation = d.0; none = d.1 })

  pub division_normal : t.number ≡ 0 → Normal (Lex 4) p quotient × Normal (Lex 4) p remainder
  division_normal h =
      let e = in_rooms h in
      transport (λ d. Normal (Lex 4) p (sym e.0 d) × Normal (Lex 4) p (sym e.1 d)) (says p f g q r work (told-finished ended h).0).normal

  -- The only such pair, against rivals of any size.
  pub division-only : t.number ≡ 0 → (h k : P) → Pair p (poly_of base f) (poly_of base g) (lead g) h k → Equal p quotient h × Equal p remainder k
  division-only z h k d =
      let w = told-finished ended z in
      let e = in_rooms z in
      transport (λ i. Equal p (sym e.0 i) h × Equal p (sym e.1 i) k) ((says p f g q r work w.0).only w.1 h k d.equation d.none)

  -- A dividend that g divides exactly never meets 9, and no 11.
  pub division_exact : Passes p f g q r work → (h : Poly (Letters 4)) → Equal p (poly_of base f) (mul h (poly_of base g)) →
      ((t.number ≡ 0) × (quotient ≡ norm (Lex 4) p h) × (remainder ≡ [])) ⊎ ((t.number ≡ 10) × (records q < length (norm (Lex 4) p h)))
  division_exact z h d = go ((says p f g q r work z).exact h d)
    where
      go : (((division_walk p f g q r).reply ≡ 0) × ((division_walk p f g q r).quotient ≡ norm (Lex 4) p h) × ((division_walk p f g q r).remainder ≡ []))
          ⊎ (((division_walk p f g q r).reply ≡ 10) × (records q < length (norm (Lex 4) p h))) →
          ((t.number ≡ 0) × (quotient ≡ norm (Lex 4) p h) × (remainder ≡ [])) ⊎ ((t.number ≡ 10) × (records q < length (norm (Lex 4) p h)))
      go (inl e) =
          let n = (division_replies 0 (inl refl)).1 (z, e.0) in
          let o = in_rooms n in
          inl (n, o.0 ∙ e.1, o.1 ∙ e.2)
      go (inr e) = inr ((division_replies 10 (inr (omega arith))).1 (z, e.0), e.1)

  -- A dividend that is a times g, for a polynomial in words that fits the quotient room, gives these words back.
  pub division_returns : Passes p f g q r work → (a : List ℕ) → Valid p a → Equal p (poly_of base f) (mul (poly_of base a) (poly_of base g)) →
      records a ≤ records q → (t ≡ done (records a) 0) × (q' ≡ filled (length q) a) × (r' ≡ cleared r) × (work' ≡ cleared work)
  division_returns z a v d room = go (division_exact z (poly_of base a) d)
    where
      self : norm (Lex 4) p (poly_of base a) ≡ poly_of base a
      self = norm_self (Lex 4) (prime_positive (walkable p f g q r work z).good.prime) (poly_of base a) (valid_normal p a v)

      go : ((t.number ≡ 0) × (quotient ≡ norm (Lex 4) p (poly_of base a)) × (remainder ≡ []))
          ⊎ ((t.number ≡ 10) × (records q < length (norm (Lex 4) p (poly_of base a)))) → (t ≡ done (records a) 0) × (q' ≡ filled (length q) a) × (r' ≡ cleared r) × (work' ≡ cleared work)
      go (inl e) =
          let w = division_written e.0 in
          let one : quotient ≡ poly_of base a = e.1 ∙ self in (
            w.0 ∙ (λ i. done (length (one i)) (length (e.2 i))) ∙ ap (λ (n : ℕ). done n 0) (length_poly base a),
            w.1 ∙ ap (λ (k : Poly (Letters 4)). filled (length q) (words_of base k)) one ∙ ap (filled (length q)) (valid_words_of p a v),
            w.2 ∙ ap (λ (k : Poly (Letters 4)). filled (length r) (words_of base k)) e.2 ∙ ap (λ (n : ℕ). replicate n 0) (sub-zero (length r)),
            w.3,
          )
      go (inr e) = absurd (omega (arith, e.1, ap length self, length_poly base a))

  -- 9 where the quotient of the greatest term left has an exponent that with M(g, v) is over 32,767, else 10 where the quotient room
  -- is full; 11 where g's lead monomial does not divide that term and the remainder room is full.
  pub division_stops : 8 < t.number →
      (l : StoppedAt p (poly_of base f) (poly_of base g) (division_walk p f g q r))
      × DivisionDue (poly_of base g) (lead g) (records q) (records r) (length (division_walk p f g q r).quotient) (length (division_walk p f g q r).remainder) l.at.mon t.number
  division_stops h =
      let w = told-stopped ended h in
      let l = (says p f g q r work w.0).stops (λ z. omega arith) in (
        l.0,
        subst (DivisionDue (poly_of base g) (lead g) (records q) (records r) (length (division_walk p f g q r).quotient)
            (length (division_walk p f g q r).remainder) l.0.at.mon) w.1 l.1,
      )

  pub division_answers : Passes p f g q r work → (t.number ≡ 0) ⊎ ((t.number ≡ 9) ⊎ ((t.number ≡ 10) ⊎ (t.number ≡ 11)))
  division_answers z = go (says p f g q r work z).replies
    where
      met : {at : (Letters 4).Mon} {i j n : ℕ} → DivisionDue (poly_of base g) (lead g) (records q) (records r) i j at n → (n ≡ 9) ⊎ ((n ≡ 10) ⊎ (n ≡ 11))
      met (inl d) = inl d.0
      met (inr (inl d)) = inr (inl d.0)
      met (inr (inr d)) = inr (inr d.0)

      go : ((division_walk p f g q r).reply ≡ 0) ⊎ (8 < (division_walk p f g q r).reply) → (t.number ≡ 0) ⊎ ((t.number ≡ 9) ⊎ ((t.number ≡ 10) ⊎ (t.number ≡ 11)))
      go (inl e) = inl ((division_replies 0 (inl refl)).1 (z, e))
      go (inr h) = let n = (division_replies (division_walk p f g q r).reply (inr h)).1 (z, refl) in inr (met (division_stops (omega arith)).1)
