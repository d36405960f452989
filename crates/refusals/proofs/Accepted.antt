-- Slices that pass: what the rules 1 to 8 ask, and what a report that refuses nothing says of the slices lent.
--
--   Shaped s                       a lent slice of even length that is within its number of terms
--   Input p s                      a lent slice that is Valid and within its number of terms
--   Each P slices                  every one of some lent slices has the property P
--   Accepted p inputs outputs      what the rules 1 to 6 ask of a call together
--   unless_passed, passed_unless, unless_tells, unless-told, unless_own   of a rule that tests a slice as a whole
--   found_passed, passed_found, found_tells, found-told, found_own   of a rule that tests each term
--   NAME_passed                    the report of the rule NAME has the number 0, so what it asks holds
--   passed_NAME                    what the rule NAME asks holds, so it answers `none`
--   NAME_own                       the report of the rule NAME has no number but 0 and its own
--   shapes_passed, passed_shapes   the same of 2 and 3 over some lent slices
--   refusals_accepted, accepted_refusals   the same of 1 to 6 over a call
use Prim.Native.Nat.{ℕ, zero, suc, ◌*◌, ◌%◌, ◌<◌, ◌≤◌}
use mathlib.Core.Path.{◌≡◌, refl, sym, ◌∙◌, ap}
use mathlib.Core.Bool.{Bool, true, false, not, ◌||◌}
use mathlib.Core.List.{List, [], ◌∷◌, ◌++◌, map}
use mathlib.Core.Logic.{inl, inr}
use native.Mathlib.Omega.{arith}
use lib.Dec.{eqb, leb, ltb}
use lib.ListN.{length}
use borrow.Author.Tests.{ltb-true, ltb-false, leb-true, leb-false, eqb-true, eqb-false, not-false, lt-ltb, le-ltb, le-leb, lt-leb, eq-eqb, ne_eqb}
use Rattle.algebra.specs.Residues.{pick, first, FirstOf}
use Rattle.algebra.proofs.Tests.{neither}
use Rattle.algebra.proofs.Scan.{first_hit, first_miss, first_unique}
use Rattle.moduli.specs.Moduli.{is_modulus}
use Rattle.monomial.specs.Layout.{base, is_monomial}
use Rattle.poly.specs.Words.{records, word_at, coef_at}
use Rattle.refusals.specs.Reports.{none, refusal, Passed}
use Rattle.refusals.specs.Rules.{unless, at_term, modulus_rule, odd_rule, long_rule, guard_rule, order_rule, coef_rule, divisor_rule, work_rule, Lent, shape_rules, order_rules, coef_rules, refusals}
use Rattle.faults.specs.Faults.{guard_at, order_at, bad_coef_at}
use Rattle.poly.specs.Valid.{Valid}
use Rattle.refusals.specs.declared.report.Report.{Report}
use Rattle.refusals.proofs.Reports.{Own, passed_append, append_passed}

pub record Shaped (s : Lent) : Type 0 where
  pub even : length s.words ≡ 2 * records s.words
  pub short : records s.words ≤ s.most

pub record Input (p : ℕ) (s : Lent) : Type 0 where
  pub valid : Valid p s.words
  pub short : records s.words ≤ s.most

abbrev pub Each : (Lent → Type 0) → List Lent → Type 0
Each P [] = Unit {0}
Each P (s ∷ slices) = P s × Each P slices

pub record Accepted (p : ℕ) (inputs outputs : List Lent) : Type 0 where
  pub modulus : is_modulus p ≡ true
  pub ins : Each (λ s. Input p s) inputs
  pub outs : Each (λ s. Shaped s) outputs

number_of : {a b : Report} → a ≡ b → a.number ≡ b.number
number_of e = ap (λ (r : Report). r.number) e

-- A rule that tests a slice as a whole

module _ (passed : Bool) (n operand : ℕ) where
  pub passed_unless : passed ≡ true → unless passed n operand ≡ none
  passed_unless e = ap (λ t. unless t n operand) e

  pub unless_tells : passed ≡ false → unless passed n operand ≡ refusal n operand 0
  unless_tells e = ap (λ t. unless t n operand) e

pub unless_passed : (passed : Bool) (n operand : ℕ) → 0 < n → (unless passed n operand).number ≡ 0 → passed ≡ true
unless_passed true n operand h e = refl
unless_passed false n operand h e = absurd (omega arith)

pub unless-told : (passed : Bool) (n operand : ℕ) → 0 < n → (unless passed n operand).number ≡ n → passed ≡ false
unless-told true n operand h e = absurd (omega arith)
unless-told false n operand h e = refl

pub unless_own : (passed : Bool) (n operand : ℕ) → Own n (unless passed n operand)
unless_own true n operand = record { other = λ k h f e. omega arith }
unless_own false n operand = record { other = λ k h f e. f e }

-- A rule that tests each term

-- the refusal n at the first of `count` terms that the test finds at fault
abbrev pub found : (ℕ → Bool) → ℕ → ℕ → ℕ → Report
found t n operand count = at_term n operand (first t 0 count) count

module _ (t : ℕ → Bool) (n operand count : ℕ) where
  pub found_passed : 0 < n → (found t n operand count).number ≡ 0 → (i : ℕ) → i < count → t i ≡ false
  found_passed h e i k = go (ltb (first t 0 count) count) refl e
    where
      go : (b : Bool) → ltb (first t 0 count) count ≡ b → (pick b (refusal n operand (first t 0 count)) none).number ≡ 0 → t i ≡ false
      go true f z = absurd (omega arith)
      go false f z = let l : count ≤ first t 0 count = ltb-false (first t 0 count) count f in first_miss t 0 count (omega arith) (omega arith)

  pub passed_found : ((i : ℕ) → i < count → t i ≡ false) → found t n operand count ≡ none
  passed_found f =
      let e : first t 0 count ≡ count = first_unique t 0 count count (omega arith) (omega arith) (λ j h k. f j k) (inr (omega arith)) in
      ap (λ b. pick b (refusal n operand (first t 0 count)) none) (le-ltb (first t 0 count) count (omega arith))

  pub found_tells : (i : ℕ) → FirstOf t count i → found t n operand count ≡ refusal n operand i
  found_tells i f =
      let e : first t 0 count ≡ i = first_unique t 0 count i (omega arith) (omega arith) (λ j h k. f.before j k) (inl f.holds) in
      ap (λ x. at_term n operand x count) e ∙ ap (λ b. pick b (refusal n operand i) none) (lt-ltb i count f.within)

  pub found-told : (i : ℕ) → 0 < n → found t n operand count ≡ refusal n operand i → FirstOf t count i
  found-told i h e = go (ltb (first t 0 count) count) refl e
    where
      go : (b : Bool) → ltb (first t 0 count) count ≡ b → pick b (refusal n operand (first t 0 count)) none ≡ refusal n operand i → FirstOf t count i
      go true f z =
          let l : first t 0 count < count = ltb-true (first t 0 count) count f in
          let x : first t 0 count ≡ i = ap (λ (r : Report). r.index) z in
          record {
            within = omega arith;
            holds = ap t (sym x) ∙ first_hit t 0 count (omega arith);
            before = λ j k. first_miss t 0 count (omega arith) (omega arith);
          }
      go false f z = absurd (let y : 0 ≡ n = ap (λ (r : Report). r.number) z in omega arith)

  pub found_own : Own n (found t n operand count)
  found_own = go (ltb (first t 0 count) count)
    where
      go : (b : Bool) → Own n (pick b (refusal n operand (first t 0 count)) none)
      go true = record { other = λ k h f e. f e }
      go false = record { other = λ k h f e. omega arith }

-- The rules one by one

module _ (p : ℕ) where
  pub modulus_passed : (modulus_rule p).number ≡ 0 → is_modulus p ≡ true
  unfolding modulus_rule
  modulus_passed e = unless_passed (is_modulus p) 1 0 (omega arith) e

  pub passed_modulus : is_modulus p ≡ true → modulus_rule p ≡ none
  unfolding modulus_rule
  passed_modulus h = passed_unless (is_modulus p) 1 0 h

  pub modulus_own : Own 1 (modulus_rule p)
  unfolding modulus_rule
  modulus_own = unless_own (is_modulus p) 1 0

module _ (operand : ℕ) (s : List ℕ) where
  pub odd_passed : (odd_rule operand s).number ≡ 0 → length s ≡ 2 * records s
  unfolding odd_rule
  odd_passed e =
      let z : length s % 2 ≡ 0 = eqb-true (length s % 2) 0 (unless_passed (eqb (length s % 2) 0) 2 operand (omega arith) e) in
      omega arith

  pub passed_odd : length s ≡ 2 * records s → odd_rule operand s ≡ none
  unfolding odd_rule
  passed_odd h = passed_unless (eqb (length s % 2) 0) 2 operand (eq-eqb (length s % 2) 0 (omega arith))

  pub odd_own : Own 2 (odd_rule operand s)
  unfolding odd_rule
  odd_own = unless_own (eqb (length s % 2) 0) 2 operand

  module _ (most : ℕ) where
    pub long_passed : (long_rule most operand s).number ≡ 0 → records s ≤ most
    unfolding long_rule
    long_passed e = leb-true (records s) most (unless_passed (leb (records s) most) 3 operand (omega arith) e)

    pub passed_long : records s ≤ most → long_rule most operand s ≡ none
    unfolding long_rule
    passed_long h = passed_unless (leb (records s) most) 3 operand (le-leb (records s) most h)

    pub long_own : Own 3 (long_rule most operand s)
    unfolding long_rule
    long_own = unless_own (leb (records s) most) 3 operand

  pub guard_passed : (guard_rule base operand s).number ≡ 0 → (i : ℕ) → i < records s → is_monomial base (word_at s i) ≡ true
  unfolding guard_rule guard_at
  guard_passed e i h = not-false (is_monomial base (word_at s i)) (found_passed (guard_at base s) 4 operand (records s) (omega arith) e i h)

  pub passed_guard : ((i : ℕ) → i < records s → is_monomial base (word_at s i) ≡ true) → guard_rule base operand s ≡ none
  unfolding guard_rule guard_at
  passed_guard f = passed_found (guard_at base s) 4 operand (records s) (λ i h. ap not (f i h))

  pub guard_own : Own 4 (guard_rule base operand s)
  unfolding guard_rule
  guard_own = found_own (guard_at base s) 4 operand (records s)

  pub order_passed : (order_rule operand s).number ≡ 0 → (i : ℕ) → suc i < records s → word_at s (suc i) < word_at s i
  unfolding order_rule order_at
  order_passed e i h = leb-false (word_at s i) (word_at s (suc i)) (found_passed (order_at s) 5 operand (records s) (omega arith) e (suc i) h)

  order_fails : ((i : ℕ) → suc i < records s → word_at s (suc i) < word_at s i) → (i : ℕ) → i < records s → order_at s i ≡ false
  unfolding order_at
  order_fails f zero h = refl
  order_fails f (suc i) h = lt-leb (word_at s i) (word_at s (suc i)) (f i h)

  pub passed_order : ((i : ℕ) → suc i < records s → word_at s (suc i) < word_at s i) → order_rule operand s ≡ none
  unfolding order_rule
  passed_order f = passed_found (order_at s) 5 operand (records s) (order_fails f)

  pub order_own : Own 5 (order_rule operand s)
  unfolding order_rule
  order_own = found_own (order_at s) 5 operand (records s)

  module _ (p : ℕ) where
    pub coef_passed : (coef_rule p operand s).number ≡ 0 → (i : ℕ) → i < records s → (0 < coef_at s i) × (coef_at s i < p)
    unfolding coef_rule bad_coef_at
    coef_passed e i h =
        let c = coef_at s i in
        let k = neither (eqb c 0) (leb p c) (found_passed (bad_coef_at p s) 6 operand (records s) (omega arith) e i h) in
        let z : c ≡ 0 → ⊥ = eqb-false c 0 k.0 in
        (omega arith, leb-false p c k.1)

    pub passed_coef : ((i : ℕ) → i < records s → (0 < coef_at s i) × (coef_at s i < p)) → coef_rule p operand s ≡ none
    unfolding coef_rule bad_coef_at
    passed_coef f =
        passed_found (bad_coef_at p s) 6 operand (records s)
        (λ i h. let k = f i h in
        let a : eqb (coef_at s i) 0 ≡ false = ne_eqb (coef_at s i) 0 (λ e. omega (arith, k.0)) in
        λ d. a d || lt-leb p (coef_at s i) k.1 d)

    pub coef_own : Own 6 (coef_rule p operand s)
    unfolding coef_rule
    coef_own = found_own (bad_coef_at p s) 6 operand (records s)

module _ (g : List ℕ) where
  pub divisor_passed : (divisor_rule g).number ≡ 0 → 0 < records g
  unfolding divisor_rule
  divisor_passed e = ltb-true 0 (records g) (unless_passed (ltb 0 (records g)) 7 2 (omega arith) e)

module _ (least : ℕ) (work : List ℕ) where
  pub work_passed : (work_rule least work).number ≡ 0 → least ≤ length work
  unfolding work_rule
  work_passed e = leb-true least (length work) (unless_passed (leb least (length work)) 8 5 (omega arith) e)

-- Lent slices

module _ (P : Lent → Type 0) where
  pub each-append : (ins outs : List Lent) → Each P (ins ++ outs) → Each P ins × Each P outs
  each-append [] outs h = (tt, h)
  each-append (s ∷ ins) outs h = let k = each-append ins outs h.1 in ((h.0, k.0), k.1)

  pub append-each : (ins outs : List Lent) → Each P ins → Each P outs → Each P (ins ++ outs)
  append-each [] outs h k = k
  append-each (s ∷ ins) outs h k = (h.0, append-each ins outs h.1 k)

  pub rules_passed : (rule : Lent → Report) → ((s : Lent) → (rule s).number ≡ 0 → P s) → (slices : List Lent) → Passed (map rule slices) → Each P slices
  rules_passed rule f [] h = tt
  rules_passed rule f (s ∷ slices) h = (f s h.0, rules_passed rule f slices h.1)

  pub passed_rules : (rule : Lent → Report) → ((s : Lent) → P s → rule s ≡ none) → (slices : List Lent) → Each P slices → Passed (map rule slices)
  passed_rules rule f [] h = tt
  passed_rules rule f (s ∷ slices) h = (number_of (f s h.0), passed_rules rule f slices h.1)

module _ (P Q : Lent → Type 0) where
  pub each-map : ((s : Lent) → P s → Q s) → (slices : List Lent) → Each P slices → Each Q slices
  each-map f [] h = tt
  each-map f (s ∷ slices) h = (f s h.0, each-map f slices h.1)

  pub each-both : (slices : List Lent) → Each P slices → Each Q slices → Each (λ s. P s × Q s) slices
  each-both [] h k = tt
  each-both (s ∷ slices) h k = ((h.0, k.0), each-both slices h.1 k.1)

-- A call: the rules 1 to 6 together

module _ (slices : List Lent) where
  pub shapes_passed : Passed (shape_rules slices) → Each (λ s. Shaped s) slices
  shapes_passed h =
      let k = passed_append (map (λ s. odd_rule s.operand s.words) slices) (map (λ s. long_rule s.most s.operand s.words) slices) h in
      each-map (λ s. (length s.words ≡ 2 * records s.words) × (records s.words ≤ s.most)) (λ s. Shaped s) (λ s f. record { even = f.0; short = f.1 }) slices
      (each-both (λ s. length s.words ≡ 2 * records s.words) (λ s. records s.words ≤ s.most) slices
      (rules_passed (λ s. length s.words ≡ 2 * records s.words) (λ s. odd_rule s.operand s.words) (λ s. odd_passed s.operand s.words) slices k.0)
      (rules_passed (λ s. records s.words ≤ s.most) (λ s. long_rule s.most s.operand s.words) (λ s. long_passed s.operand s.words s.most) slices k.1))

  pub passed_shapes : Each (λ s. Shaped s) slices → Passed (shape_rules slices)
  passed_shapes h =
      append_passed (map (λ s. odd_rule s.operand s.words) slices) (map (λ s. long_rule s.most s.operand s.words) slices)
      (passed_rules (λ s. Shaped s) (λ s. odd_rule s.operand s.words) (λ s f. passed_odd s.operand s.words f.even) slices h)
      (passed_rules (λ s. Shaped s) (λ s. long_rule s.most s.operand s.words) (λ s f. passed_long s.operand s.words s.most f.short) slices h)

-- what 4, 5 and 6 ask of an input
record Terms (p : ℕ) (s : Lent) : Type 0 where
  monomials : (i : ℕ) → i < records s.words → is_monomial base (word_at s.words i) ≡ true
  falls : (i : ℕ) → suc i < records s.words → word_at s.words (suc i) < word_at s.words i
  coefs : (i : ℕ) → i < records s.words → (0 < coef_at s.words i) × (coef_at s.words i < p)

module _ (p : ℕ) (inputs : List Lent) where
  terms_passed : Passed (order_rules base inputs) → Passed (coef_rules p inputs) → Each (λ s. Terms p s) inputs
  terms_passed h k =
      let j = passed_append (map (λ s. guard_rule base s.operand s.words) inputs) (map (λ s. order_rule s.operand s.words) inputs) h in
      go inputs j.0 j.1 k
    where
      go : (slices : List Lent) → Passed (map (λ s. guard_rule base s.operand s.words) slices) →
          Passed (map (λ s. order_rule s.operand s.words) slices) → Passed (coef_rules p slices) → Each (λ s. Terms p s) slices
      go [] a b c = tt
      go (s ∷ slices) a b c = (
        record {
          monomials = guard_passed s.operand s.words a.0;
          falls = order_passed s.operand s.words b.0;
          coefs = coef_passed s.operand s.words p c.0;
        },
        go slices a.1 b.1 c.1,
      )

  passed_orders : Each (λ s. Terms p s) inputs → Passed (order_rules base inputs)
  passed_orders h =
      append_passed (map (λ s. guard_rule base s.operand s.words) inputs) (map (λ s. order_rule s.operand s.words) inputs)
      (passed_rules (λ s. Terms p s) (λ s. guard_rule base s.operand s.words) (λ s f. passed_guard s.operand s.words f.monomials) inputs h)
      (passed_rules (λ s. Terms p s) (λ s. order_rule s.operand s.words) (λ s f. passed_order s.operand s.words f.falls) inputs h)

  passed_coefs : Each (λ s. Terms p s) inputs → Passed (coef_rules p inputs)
  passed_coefs h =
      passed_rules (λ s. Terms p s) (λ s. coef_rule p s.operand s.words) (λ s f. passed_coef s.operand s.words p f.coefs) inputs h

module _ (p : ℕ) (inputs outputs : List Lent) where
  pub refusals_accepted : Passed (refusals base p inputs outputs) → Accepted p inputs outputs
  refusals_accepted h =
      let k = passed_append (shape_rules (inputs ++ outputs) ++ order_rules base inputs) (coef_rules p inputs) h.1 in
      let j = passed_append (shape_rules (inputs ++ outputs)) (order_rules base inputs) k.0 in
      let shaped = each-append (λ s. Shaped s) inputs outputs (shapes_passed (inputs ++ outputs) j.0) in
      record {
        modulus = modulus_passed p h.0;
        ins =
            each-map (λ s. Shaped s × Terms p s) (λ s. Input p s)
            (λ s f. record {
              valid = record { even = f.0.even; monomials = f.1.monomials; falls = f.1.falls; coefs = f.1.coefs };
              short = f.0.short;
            })
            inputs
            (each-both (λ s. Shaped s) (λ s. Terms p s) inputs shaped.0 (terms_passed p inputs j.1 k.1));
        outs = shaped.1;
      }

  pub accepted_refusals : Accepted p inputs outputs → Passed (refusals base p inputs outputs)
  accepted_refusals a =
      let terms = each-map (λ s. Input p s) (λ s. Terms p s) (λ s f. record { monomials = f.valid.monomials; falls = f.valid.falls; coefs = f.valid.coefs }) inputs a.ins in
      let shaped = each-map (λ s. Input p s) (λ s. Shaped s) (λ s f. record { even = f.valid.even; short = f.short }) inputs a.ins in (
        number_of (passed_modulus p a.modulus),
        append_passed (shape_rules (inputs ++ outputs) ++ order_rules base inputs) (coef_rules p inputs)
            (append_passed (shape_rules (inputs ++ outputs)) (order_rules base inputs)
            (passed_shapes (inputs ++ outputs) (append-each (λ s. Shaped s) inputs outputs shaped a.outs))
            (passed_orders p inputs terms))
            (passed_coefs p inputs terms),
      )
