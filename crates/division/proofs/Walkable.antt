-- Calls that go on to their walk.
--
--   Walkable           what the rules 1 to 8 ask of two inputs, a quotient room and a work array
--   rules_walkable     where none of them is due, these are so, and the other rooms are of even length and short enough
--   all_asked          asking slice by slice, and for 7 and 8 at the end, tells the first of the rules 1 to 8
use Prim.Native.Nat.{ℕ, ◌*◌, ◌<◌, ◌≤◌}
use mathlib.Core.Path.{◌≡◌, sym, ◌∙◌, ap}
use mathlib.Core.List.{List, ◌∷◌, ◌++◌}
use lib.ListN.{length}
use Rattle.monomial.specs.Layout.{base}
use Rattle.poly.specs.Words.{records}
use Rattle.refusals.specs.Reports.{none, first_or}
use Rattle.refusals.specs.Rules.{Lent, lent, input_terms, refusals}
use Rattle.dues.specs.Dues.{no_due, with_rooms, with_inputs, first_due}
use Rattle.refusals.specs.declared.report.Report.{Report}
use Rattle.dues.specs.declared.Due.{Due}
use Rattle.refusals.proofs.Reports.{fold_append, fold_passed}
use Rattle.refusals.proofs.Accepted.{Shaped, Each, divisor_passed, work_passed}
use Rattle.calls.specs.Inputs.{inputs}
use Rattle.calls.proofs.Refusals.{Good, asked, rules_good}
use Rattle.division.specs.Division.{last_rules}

pub record Walkable (p : ℕ) (f g q work : List ℕ) : Type 0 where
  pub good : Good p f g
  pub some : 0 < records g
  pub room_short : records q ≤ input_terms
  pub long : 4 * records q ≤ length work

module _ (p : ℕ) (f g q work : List ℕ) where
  module _ (others : List Lent) where
    abbrev shapes : List Report
    shapes = refusals base p (inputs f g) (lent 3 q input_terms ∷ others)

    pub rules_walkable : {t : Report} →
        t ≡ first_or (shapes ++ last_rules g q work) none → t.number ≡ 0 → Walkable p f g q work × Each (λ s. Shaped s) others
    rules_walkable {t} e z =
        let last = first_or (last_rules g q work) none in
        let A = rules_good p f g (lent 3 q input_terms ∷ others) t last (e ∙ fold_append shapes (last_rules g q work) none) z in
        let passed = (fold_passed (last_rules g q work) none A.2).0 in (
          record {
            good = A.0;
            some = divisor_passed g passed.0;
            room_short = A.1.0.short;
            long = work_passed (4 * records q) work passed.1.0;
          },
          A.1.1,
        )

  pub all_asked : (outs : List Lent) {t last : Report} {d : Due} →
      d ≡ with_rooms (with_inputs p no_due (inputs f g)) outs → last ≡ first_or (last_rules g q work) none → t ≡ first_due p d last →
      t ≡ first_or (refusals base p (inputs f g) outs ++ last_rules g q work) none
  all_asked outs {t} {last} {d} due l e =
      let rules = refusals base p (inputs f g) outs in
      asked p f g outs t last d due e ∙ ap (first_or rules) l ∙ sym (fold_append rules (last_rules g q work) none)
