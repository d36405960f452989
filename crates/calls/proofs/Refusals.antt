-- Calls that are refused, and calls that go on.
--
--   refused_tells     the refusal that is due is told, and all arrays are as they were
--   passed_goes_on    where none is due, the outcome is what the call does then
--   asked             what a call asks of its slices, one after the other, is the first of its ordered rules that is due
--   Good              what the rules 1 to 6 ask of a modulus and two inputs
--   rules_good        where none of them is due, these are good, the rooms are of even length and short enough, and no later rule is due
use Prim.Native.Nat.{ℕ, ◌<◌, ◌≤◌}
use mathlib.Core.Path.{◌≡◌, sym, ◌∙◌, ap}
use mathlib.Core.List.{List}
use native.Mathlib.Omega.{arith}
use lib.Dec.{eqb}
use borrow.Author.Tests.{eq-eqb, ne_eqb}
use Rattle.algebra.specs.Residues.{Prime, pick}
use Rattle.moduli.specs.Moduli.{limit}
use Rattle.moduli.proofs.Moduli.{modulus_prime, modulus_within}
use Rattle.monomial.specs.Layout.{base}
use Rattle.poly.specs.Words.{records}
use Rattle.poly.specs.Valid.{Valid}
use Rattle.refusals.specs.Reports.{none, first_or}
use Rattle.refusals.specs.Rules.{Lent, input_terms, refusals}
use Rattle.dues.specs.Dues.{no_due, with_rooms, with_inputs, first_due}
use Rattle.refusals.specs.declared.report.Report.{Report}
use Rattle.dues.specs.declared.Due.{Due}
use Rattle.refusals.proofs.Reports.{fold_passed}
use Rattle.dues.proofs.Dues.{dues_first}
use Rattle.refusals.proofs.Accepted.{Shaped, Each, refusals_accepted}
use Rattle.calls.specs.Inputs.{inputs}
use Rattle.calls.specs.Outcomes.{Outcome, outcome, unless_refused}

module _ (rules : List Report) (r : Report) (e : r ≡ first_or rules none) (first second work : List ℕ) (then : Outcome) where
  by_test : pick (eqb r.number 0) then (outcome r first second work) ≡ unless_refused rules first second work then
  by_test = ap (λ (x : Report). pick (eqb x.number 0) then (outcome x first second work)) e

  pub refused_tells : (r.number ≡ 0 → ⊥) → outcome r first second work ≡ unless_refused rules first second work then
  refused_tells n = ap (λ b. pick b then (outcome r first second work)) (sym (ne_eqb r.number 0 n)) ∙ by_test

  pub passed_goes_on : r.number ≡ 0 → then ≡ unless_refused rules first second work then
  passed_goes_on z = ap (λ b. pick b then (outcome r first second work)) (sym (eq-eqb r.number 0 z)) ∙ by_test

module _ (p : ℕ) (a b : List ℕ) (outs : List Lent) (r otherwise : Report) where
  pub asked : (d : Due) → d ≡ with_rooms (with_inputs p no_due (inputs a b)) outs → r ≡ first_due p d otherwise → r ≡ first_or (refusals base p (inputs a b) outs) otherwise
  asked d f e = e ∙ ap (λ (x : Due). first_due p x otherwise) f ∙ dues_first p (inputs a b) outs otherwise

pub record Good (p : ℕ) (a b : List ℕ) : Type 0 where
  pub prime : Prime p
  pub positive : 0 < p
  pub within : p ≤ limit
  pub first : Valid p a
  pub first_short : records a ≤ input_terms
  pub second : Valid p b
  pub second_short : records b ≤ input_terms

pub rules_good : (p : ℕ) (a b : List ℕ) (outs : List Lent) (r otherwise : Report) → r ≡ first_or (refusals base p (inputs a b) outs) otherwise →
    r.number ≡ 0 → Good p a b × Each (λ s. Shaped s) outs × (otherwise.number ≡ 0)
rules_good p a b outs r otherwise e z =
    let passed = fold_passed (refusals base p (inputs a b) outs) otherwise (ap (λ (x : Report). x.number) (sym e) ∙ z) in
    let A = refusals_accepted p (inputs a b) outs passed.0 in
    let P = modulus_prime A.modulus in (
      record {
        prime = P;
        positive = omega (arith, P.two);
        within = modulus_within A.modulus;
        first = A.ins.0.valid;
        first_short = A.ins.0.short;
        second = A.ins.1.0.valid;
        second_short = A.ins.1.0.short;
      },
      A.outs,
      passed.1,
    )
