-- What is claimed of the check, shown of its contract as the check generates it from the source.
--
--   check_accepts   it passes just where p is a modulus and the slice is Valid and within its number of terms
--   check-modulus, check-odd, check-long, check-guard, check-order, check-coefficient   each refusal is told just where its rule says so and
--                   none of a lower number is due
--   check-done      0 with the term count where none is
use Prim.Native.Nat.{ℕ, suc, ◌*◌, ◌%◌, ◌<◌, ◌≤◌}
use mathlib.Core.Path.{◌≡◌, refl, sym, ◌∙◌, ap}
use mathlib.Core.Bool.{true, false}
use mathlib.Core.List.{List, [], ◌∷◌}
use mathlib.Core.Logic.{◌↔◌}
use native.Mathlib.Omega.{arith}
use lib.Dec.{eqb, leb}
use lib.ListN.{length}
use borrow.Author.Tests.{leb-false, eqb-false, lt-leb, ne_eqb}
use Rattle.moduli.specs.Moduli.{is_modulus}
use Rattle.monomial.specs.Layout.{base, is_monomial}
use Rattle.poly.specs.Words.{records, word_at}
use Rattle.refusals.specs.Reports.{refusal, done}
use Rattle.refusals.specs.Rules.{input_terms, modulus_rule, odd_rule, long_rule, guard_rule, order_rule, coef_rule, refusals}
use Rattle.faults.specs.Faults.{guard_at, order_at, bad_coef_at}
use Rattle.services.specs.Services.{as_input, check_of}
use Rattle.services.proofs.check.check.Reads as call
use Rattle.poly.specs.Valid.{Valid}
use Rattle.algebra.specs.Residues.{FirstOf}
use Rattle.refusals.specs.declared.report.Report.{Report}
use Rattle.refusals.proofs.Reports.{Ascending, fold_passed, passed_fold, fold_told}
use Rattle.refusals.proofs.Accepted.{
  accepted_refusals,
  found_tells,
  found-told,
  guard_own,
  guard_passed,
  long_own,
  long_passed,
  modulus_own,
  modulus_passed,
  coef_own,
  odd_own,
  odd_passed,
  order_own,
  order_passed,
  passed_guard,
  passed_long,
  passed_modulus,
  passed_odd,
  passed_order,
  refusals_accepted,
  unless_tells,
  unless-told,
}

number_of : {a b : Report} → a ≡ b → a.number ≡ b.number
number_of e = ap (λ (r : Report). r.number) e

-- From the definition

module _ (p : ℕ) (s : List ℕ) where
  check_passed : (is_modulus p ≡ true) × Valid p s × (records s ≤ input_terms) → check_of p s ≡ done (records s) 0
  unfolding check_of
  check_passed h =
      passed_fold (refusals base p (as_input s ∷ []) []) (done (records s) 0)
      (accepted_refusals p (as_input s ∷ []) [] (record { modulus = h.0; ins = (record { valid = h.1; short = h.2 }, tt); outs = tt }))

  check_valid : ((check_of p s).number ≡ 0) ↔ ((is_modulus p ≡ true) × Valid p s × (records s ≤ input_terms))
  unfolding check_of
  check_valid = (
    λ e.
        let a = refusals_accepted p (as_input s ∷ []) [] (fold_passed (refusals base p (as_input s ∷ []) []) (done (records s) 0) e).0 in
        (a.modulus, a.ins.0.valid, a.ins.0.short),
    λ h. number_of (check_passed h),
  )

  -- The check tells a refusal just where its rule says so and none of a lower number is due

  rules_own : Ascending 1 (modulus_rule p ∷ odd_rule 1 s ∷ long_rule input_terms 1 s ∷ guard_rule base 1 s ∷ order_rule 1 s ∷ coef_rule p 1 s ∷ [])
  rules_own = (modulus_own p, (odd_own 1 s, (long_own 1 s input_terms, (guard_own 1 s, (order_own 1 s, (coef_own 1 s p, tt))))))

  check_tells_1 : (check_of p s ≡ refusal 1 0 0) ↔ (is_modulus p ≡ false)
  unfolding check_of modulus_rule
  check_tells_1 =
      let d = fold_told [] (modulus_rule p) (odd_rule 1 s ∷ long_rule input_terms 1 s ∷ guard_rule base 1 s ∷ order_rule 1 s ∷ coef_rule p 1 s ∷ [])
      (done (records s) 0) (refusal 1 0 0) rules_own refl refl in (
        λ e. let f = d.0 e in unless-told (is_modulus p) 1 0 (omega arith) (number_of f.1),
        λ h. d.1 (tt, unless_tells (is_modulus p) 1 0 h),
      )

  check_tells_2 : (check_of p s ≡ refusal 2 1 0) ↔ ((is_modulus p ≡ true) × (length s % 2 ≡ 1))
  unfolding check_of odd_rule
  check_tells_2 =
      let d = fold_told (modulus_rule p ∷ []) (odd_rule 1 s) (long_rule input_terms 1 s ∷ guard_rule base 1 s ∷ order_rule 1 s ∷ coef_rule p 1 s ∷ [])
      (done (records s) 0) (refusal 2 1 0) rules_own refl refl in (
        λ e. let f = d.0 e in (
          modulus_passed p f.0.0,
          let z : length s % 2 ≡ 0 → ⊥ = eqb-false (length s % 2) 0
              (unless-told (eqb (length s % 2) 0) 2 1 (omega arith) (number_of f.1)) in omega arith,
        ),
        λ h. d.1 ((number_of (passed_modulus p h.0), tt), unless_tells (eqb (length s % 2) 0) 2 1 (ne_eqb (length s % 2) 0 (λ z. omega (arith, h.1)))),
      )

  check_tells_3 : (check_of p s ≡ refusal 3 1 0) ↔ ((is_modulus p ≡ true) × (length s ≡ 2 * records s) × (input_terms < records s))
  unfolding check_of long_rule
  check_tells_3 =
      let d = fold_told (modulus_rule p ∷ odd_rule 1 s ∷ []) (long_rule input_terms 1 s) (guard_rule base 1 s ∷ order_rule 1 s ∷ coef_rule p 1 s ∷ [])
      (done (records s) 0) (refusal 3 1 0) rules_own refl refl in (
        λ e. let f = d.0 e in (
          modulus_passed p f.0.0,
          odd_passed 1 s f.0.1.0,
          leb-false (records s) input_terms
              (unless-told (leb (records s) input_terms) 3 1 (omega arith) (number_of f.1)),
        ),
        λ h. d.1 ((number_of (passed_modulus p h.0), (number_of (passed_odd 1 s h.1), tt)), unless_tells (leb (records s) input_terms) 3 1 (lt-leb (records s) input_terms h.2)),
      )

  check_tells_4 : (i : ℕ) → (check_of p s ≡ refusal 4 1 i) ↔ ((is_modulus p ≡ true) × (length s ≡ 2 * records s) × (records s ≤ input_terms) × FirstOf (guard_at base s) (records s) i)
  unfolding check_of guard_rule
  check_tells_4 i =
      let d = fold_told (modulus_rule p ∷ odd_rule 1 s ∷ long_rule input_terms 1 s ∷ []) (guard_rule base 1 s) (order_rule 1 s ∷ coef_rule p 1 s ∷ [])
      (done (records s) 0) (refusal 4 1 i) rules_own refl refl in (
        λ e. let f = d.0 e in (
          modulus_passed p f.0.0,
          odd_passed 1 s f.0.1.0,
          long_passed 1 s input_terms f.0.1.1.0,
          found-told
              (guard_at base s) 4 1 (records s) i (omega arith) f.1,
        ),
        λ h. d.1 (
          (number_of (passed_modulus p h.0), (number_of (passed_odd 1 s h.1), (number_of (passed_long 1 s input_terms h.2), tt))),
          found_tells (guard_at base s) 4 1 (records s) i h.3,
        ),
      )

  check_tells_5 : (i : ℕ) →
      (check_of p s ≡ refusal 5 1 i) ↔ ((is_modulus p ≡ true) × (length s ≡ 2 * records s) × (records s ≤ input_terms) ×
      ((j : ℕ) → j < records s → is_monomial base (word_at s j) ≡ true) × FirstOf (order_at s) (records s) i)
  unfolding check_of order_rule
  check_tells_5 i =
      let d = fold_told (modulus_rule p ∷ odd_rule 1 s ∷ long_rule input_terms 1 s ∷ guard_rule base 1 s ∷ []) (order_rule 1 s) (coef_rule p 1 s ∷ [])
      (done (records s) 0) (refusal 5 1 i) rules_own refl refl in (
        λ e. let f = d.0 e in (
          modulus_passed p f.0.0,
          odd_passed 1 s f.0.1.0,
          long_passed 1 s input_terms f.0.1.1.0,
          guard_passed 1 s
              f.0.1.1.1.0,
          found-told (order_at s) 5 1 (records s) i (omega arith) f.1,
        ),
        λ h. d.1 (
          (
            number_of (passed_modulus p h.0),
            (
              number_of (passed_odd 1 s h.1),
              (number_of (passed_long 1 s input_terms h.2), (number_of (passed_guard 1 s h.3), tt)),
            ),
          ),
          found_tells (order_at s) 5 1 (records s) i h.4,
        ),
      )

  check_tells_6 : (i : ℕ) →
      (check_of p s ≡ refusal 6 1 i) ↔ ((is_modulus p ≡ true) × (length s ≡ 2 * records s) × (records s ≤ input_terms) ×
      ((j : ℕ) → j < records s → is_monomial base (word_at s j) ≡ true) × ((j : ℕ) → suc j < records s → word_at s (suc j) < word_at s j) × FirstOf (bad_coef_at p s) (records s) i)
  unfolding check_of coef_rule
  check_tells_6 i =
      let d = fold_told (modulus_rule p ∷ odd_rule 1 s ∷ long_rule input_terms 1 s ∷ guard_rule base 1 s ∷ order_rule 1 s ∷ []) (coef_rule p 1 s) []
      (done (records s) 0) (refusal 6 1 i) rules_own refl refl in (
        λ e. let f = d.0 e in (
          modulus_passed p f.0.0,
          odd_passed 1 s f.0.1.0,
          long_passed 1 s input_terms f.0.1.1.0,
          guard_passed 1 s
              f.0.1.1.1.0,
          order_passed 1 s f.0.1.1.1.1.0,
          found-told (bad_coef_at p s) 6 1 (records s) i (omega arith) f.1,
        ),
        λ h. d.1 (
          (
            number_of (passed_modulus p h.0),
            (
              number_of (passed_odd 1 s h.1),
              (number_of (passed_long 1 s input_terms h.2), (number_of (passed_guard 1 s h.3), (number_of (passed_order 1 s h.4), tt))),
            ),
          ),
          found_tells (bad_coef_at p s) 6 1 (records s) i h.5,
        ),
      )

-- From the contract

module _ (κs : _) (x : _) (t : _) (s : _) (post : call.Post κs x t s) where
  abbrev p : ℕ
  p = x.0

  abbrev f : List ℕ
  f = x.1.0.now

  told : {r : Report} {A : Type 0} → (check_of p f ≡ r) ↔ A → (t ≡ r) ↔ A
  told d = (λ k. d.0 (sym post ∙ k), λ a. post ∙ d.1 a)

  pub check_accepts : (t.number ≡ 0) ↔ ((is_modulus p ≡ true) × Valid p f × (records f ≤ input_terms))
  check_accepts = let c = check_valid p f in (λ e. c.0 (sym (number_of post) ∙ e), λ v. number_of post ∙ c.1 v)

  pub check-modulus : (t ≡ refusal 1 0 0) ↔ (is_modulus p ≡ false)
  check-modulus = told (check_tells_1 p f)

  pub check-odd : (t ≡ refusal 2 1 0) ↔ ((is_modulus p ≡ true) × (length f % 2 ≡ 1))
  check-odd = told (check_tells_2 p f)

  pub check-long : (t ≡ refusal 3 1 0) ↔ ((is_modulus p ≡ true) × (length f ≡ 2 * records f) × (input_terms < records f))
  check-long = told (check_tells_3 p f)

  pub check-guard : (i : ℕ) → (t ≡ refusal 4 1 i) ↔ ((is_modulus p ≡ true) × (length f ≡ 2 * records f) × (records f ≤ input_terms) × FirstOf (guard_at base f) (records f) i)
  check-guard i = told (check_tells_4 p f i)

  pub check-order : (i : ℕ) → (t ≡ refusal 5 1 i) ↔
      ((is_modulus p ≡ true) × (length f ≡ 2 * records f) × (records f ≤ input_terms) × ((j : ℕ) → j < records f → is_monomial base (word_at f j) ≡ true) × FirstOf (order_at f) (records f) i)
  check-order i = told (check_tells_5 p f i)

  pub check-coefficient : (i : ℕ) → (t ≡ refusal 6 1 i) ↔
      ((is_modulus p ≡ true) × (length f ≡ 2 * records f) × (records f ≤ input_terms) × ((j : ℕ) → j < records f → is_monomial base (word_at f j) ≡ true)
      × ((j : ℕ) → suc j < records f → word_at f (suc j) < word_at f j) × FirstOf (bad_coef_at p f) (records f) i)
  check-coefficient i = told (check_tells_6 p f i)

  pub check-done : (is_modulus p ≡ true) × Valid p f × (records f ≤ input_terms) → t ≡ done (records f) 0
  check-done v = post ∙ check_passed p f v
