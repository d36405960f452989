-- The sheet of examples.
--
--   sheet         every row is right: each is computed
--   sheet_holds   so every row holds: what the contracts say is what the sheet says, in every number and every word
--   same_words_lem, same_report_lem, same_outcome_lem, same_number_lem, same_balance_lem   what passes the test is equal
use Prim.Native.Nat.{ℕ}
use mathlib.Core.Path.{◌≡◌, refl, ap}
use mathlib.Core.Bool.{true, false≢true}
use mathlib.Core.List.{List, [], ◌∷◌}
use lib.IntN.{ℤ, pos, negsuc}
use native.Mathlib.Decide.{dec_lt}
use borrow.Author.Tests.{eqb-true}
use Rattle.algebra.specs.Residues.{is_prime, inverse}
use Rattle.algebra.proofs.Tests.{both_true}
use Rattle.moduli.specs.Moduli.{is_modulus}
use Rattle.field.specs.Answers.{balanced_of, balanced_value}
use Rattle.field.specs.declared.Balance.{Balance}
use Rattle.monomial.specs.Layout.{is_monomial}
use Rattle.poly.specs.Words.{poly_of}
use Rattle.faults.specs.Faults.{guard_at, order_at, bad_coef_at}
use Rattle.refusals.specs.Rules.{modulus_rule, odd_rule, long_rule, guard_rule, order_rule, coef_rule, divisor_rule, work_rule}
use Rattle.refusals.specs.declared.report.Report.{Report}
use Rattle.calls.specs.Outcomes.{Outcome}
use Rattle.product.specs.Products.{multiplied, product_of}
use Rattle.division.specs.Division.{divide_of, test_of}
use Rattle.judges.specs.Judges.{steps}
use Rattle.claims.specs.Sheet.{Row, product, division, divide_test, balanced, Holds, AllHold, same_number, same_balance, right, all_right, rows}
use Rattle.compared.specs.Compared.{same_words, same_report, same_outcome}

pub sheet : all_right rows ≡ true
unfolding product_of multiplied divide_of test_of steps poly_of is_monomial is_prime inverse is_modulus dec_lt modulus_rule odd_rule long_rule guard_rule guard_at
    order_rule order_at coef_rule bad_coef_at divisor_rule work_rule balanced_of balanced_value
sheet = refl

-- What passes the test is equal

same_words_lem : (v w : List ℕ) → same_words v w ≡ true → v ≡ w
same_words_lem [] [] e = refl
same_words_lem [] (w ∷ ws) e = absurd (false≢true e)
same_words_lem (v ∷ vs) [] e = absurd (false≢true e)
same_words_lem (v ∷ vs) (w ∷ ws) e =
    let parts = both_true _ _ e in
    λ i. eqb-true v w parts.0 i ∷ same_words_lem vs ws parts.1 i

same_report_lem : (r s : Report) → same_report r s ≡ true → r ≡ s
same_report_lem r s e =
    let n = both_true _ _ e in
    let o = both_true _ _ n.1 in
    let i = both_true _ _ o.1 in
    let c = both_true _ _ i.1 in
    λ j. record {
      number = eqb-true r.number s.number n.0 j;
      operand = eqb-true r.operand s.operand o.0 j;
      index = eqb-true r.index s.index i.0 j;
      first = eqb-true r.first s.first c.0 j;
      second = eqb-true r.second s.second c.1 j;
    }

same_outcome_lem : (a b : Outcome) → same_outcome a b ≡ true → a ≡ b
same_outcome_lem a b e =
    let r = both_true _ _ e in
    let f = both_true _ _ r.1 in
    let w = both_true _ _ f.1 in
    λ i. record {
      report = same_report_lem a.report b.report r.0 i;
      first = same_words_lem a.first b.first f.0 i;
      second = same_words_lem a.second b.second w.0 i;
      work = same_words_lem a.work b.work w.1 i;
    }

pub same_number_lem : (m n : ℤ) → same_number m n ≡ true → m ≡ n
same_number_lem (pos m) (pos n) e = ap pos (eqb-true m n e)
same_number_lem (pos m) (negsuc n) e = absurd (false≢true e)
same_number_lem (negsuc m) (pos n) e = absurd (false≢true e)
same_number_lem (negsuc m) (negsuc n) e = ap negsuc (eqb-true m n e)

same_balance_lem : (a b : Balance) → same_balance a b ≡ true → a ≡ b
same_balance_lem a b e =
    let parts = both_true _ _ e in
    λ i. record { number = eqb-true a.number b.number parts.0 i; value = same_number_lem a.value b.value parts.1 i }

-- The sheet as equations

right-holds : (row : Row) → right row ≡ true → Holds row
right-holds (product p a b room work leaves) e = same_outcome_lem _ _ e
right-holds (division p f g q r work leaves) e = same_outcome_lem _ _ e
right-holds (divide_test p f g q work leaves) e = same_outcome_lem _ _ e
right-holds (balanced p c answers) e = same_balance_lem _ _ e

all_hold : (sheet : List Row) → all_right sheet ≡ true → AllHold sheet
all_hold [] e = tt
all_hold (row ∷ rest) e =
    let parts = both_true _ _ e in
    (right-holds row parts.0, all_hold rest parts.1)

pub sheet_holds : AllHold rows
sheet_holds = all_hold rows sheet
