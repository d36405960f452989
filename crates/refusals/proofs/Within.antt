-- The numbers of the refusals 1 to 8.
--
--   Within rs                     no report of the list has a number over 8
--   within_append                 of two lists, one after the other
--   within_first                  then the first one due has none either
--   refusals_within               the rules 1 to 6 of any call
--   divisor_within, work_within   7 and 8
use Prim.Native.Nat.{ℕ, ◌≤◌}
use mathlib.Core.Path.{refl}
use mathlib.Core.Bool.{Bool, true, false}
use mathlib.Core.List.{List, [], ◌∷◌, ◌++◌, map}
use native.Mathlib.Decide.{dec_lt}
use native.Mathlib.Omega.{arith}
use lib.Dec.{eqb, leb, ltb}
use lib.ListN.{length}
use Rattle.algebra.specs.Residues.{pick}
use Rattle.monomial.specs.Layout.{base}
use Rattle.poly.specs.Words.{records}
use Rattle.refusals.specs.Reports.{none, first_or}
use Rattle.refusals.specs.Rules.{Lent, modulus_rule, odd_rule, long_rule, guard_rule, order_rule, coef_rule, divisor_rule, work_rule, shape_rules, order_rules, coef_rules, refusals}
use Rattle.refusals.specs.declared.report.Report.{Report}
use Rattle.refusals.proofs.Reports.{Own}
use Rattle.refusals.proofs.Accepted.{unless_own, modulus_own, odd_own, long_own, guard_own, order_own, coef_own}

-- no number over 8
abbrev pub Within : List Report → Type 0
Within [] = Unit {0}
Within (r ∷ rs) = (r.number ≤ 8) × Within rs

own_within : (k : ℕ) → k ≤ 8 → (r : Report) → Own k r → r.number ≤ 8
own_within k h r o = elim (dec_lt 8 r.number) [ yes l ↦ absurd (o.other r.number (omega arith) (λ e. omega arith) refl) | no l ↦ omega arith ]

pub within_append : (rs ss : List Report) → Within rs → Within ss → Within (rs ++ ss)
within_append [] ss h k = k
within_append (r ∷ rs) ss h k = (h.0, within_append rs ss h.1 k)

within_map : (rule : Lent → Report) → ((s : Lent) → (rule s).number ≤ 8) → (slices : List Lent) → Within (map rule slices)
within_map rule h [] = tt
within_map rule h (s ∷ slices) = (h s, within_map rule h slices)

pub within_first : (rs : List Report) → Within rs → (first_or rs none).number ≤ 8
within_first [] h = omega arith
within_first (r ∷ rs) h = go (eqb r.number 0) h.0 (within_first rs h.1)
  where
    go : (t : Bool) → r.number ≤ 8 → (first_or rs none).number ≤ 8 → (pick t (first_or rs none) r).number ≤ 8
    go true k l = l
    go false k l = k

pub refusals_within : (p : ℕ) (ins outs : List Lent) → Within (refusals base p ins outs)
refusals_within p ins outs = (
  own_within 1 (omega arith) (modulus_rule p) (modulus_own p),
  within_append (shape_rules (ins ++ outs) ++ order_rules base ins) (coef_rules p ins)
      (within_append (shape_rules (ins ++ outs)) (order_rules base ins)
      (within_append (map (λ s. odd_rule s.operand s.words) (ins ++ outs)) (map (λ s. long_rule s.most s.operand s.words) (ins ++ outs))
      (within_map (λ s. odd_rule s.operand s.words) (λ s. own_within 2 (omega arith) (odd_rule s.operand s.words) (odd_own s.operand s.words)) (ins ++ outs))
      (within_map (λ s. long_rule s.most s.operand s.words)
      (λ s. own_within 3 (omega arith) (long_rule s.most s.operand s.words) (long_own s.operand s.words s.most)) (ins ++ outs)))
      (within_append (map (λ s. guard_rule base s.operand s.words) ins) (map (λ s. order_rule s.operand s.words) ins)
      (within_map (λ s. guard_rule base s.operand s.words) (λ s. own_within 4 (omega arith) (guard_rule base s.operand s.words) (guard_own s.operand s.words)) ins)
      (within_map (λ s. order_rule s.operand s.words) (λ s. own_within 5 (omega arith) (order_rule s.operand s.words) (order_own s.operand s.words)) ins)))
      (within_map (λ s. coef_rule p s.operand s.words) (λ s. own_within 6 (omega arith) (coef_rule p s.operand s.words) (coef_own s.operand s.words p)) ins),
)

pub divisor_within : (g : List ℕ) → (divisor_rule g).number ≤ 8
unfolding divisor_rule
divisor_within g = own_within 7 (omega arith) (divisor_rule g) (unless_own (ltb 0 (records g)) 7 2)

pub work_within : (least : ℕ) (work : List ℕ) → (work_rule least work).number ≤ 8
unfolding work_rule
work_within least work = own_within 8 (omega arith) (work_rule least work) (unless_own (leb least (length work)) 8 5)
