-- The refusals 1 to 8 of RULES Replies, each a rule that answers a report: `none` where it is not due.
-- Of several that are due the lowest number wins, then the lowest operand, then the lowest term.
--
--   modulus_rule p             1: p is not a prime in its range
--   odd_rule operand s         2: the slice s has odd length
--   long_rule most operand s   3: the slice is over its number of terms
--   guard_rule l operand s     4: a guard bit is set
--   order_rule operand s       5: a monomial is not below the one before
--   coef_rule p operand s      6: a coefficient is 0 or at least p
--   divisor_rule g             7: the divisor is zero
--   work_rule least work       8: the work array is too short
--   Lent                       an input or output slice: its operand, its words, and the most terms it may have
--   lent operand s most        such a slice
--   refusals l p ins outs      the rules 1 to 6 of a call with these inputs and outputs, in the order in which they win
use Rattle.std.specs.Prelude.{ℕ, ◌%◌, Bool, List, ◌∷◌, ◌++◌, map, eqb, leb, ltb, length}
use Rattle.algebra.specs.Residues.{pick, first}
use Rattle.moduli.specs.Moduli.{is_modulus}
use Rattle.monomial.specs.Layout.{Layout}
use Rattle.poly.specs.Words.{records}
use Rattle.faults.specs.Faults.{guard_at, order_at, bad_coef_at}
use Rattle.refusals.specs.Reports.{none, refusal}
use Rattle.refusals.specs.declared.report.Report.{Report}

-- The most terms: of an input or a quotient room, and of any other room

abbrev pub input_terms : ℕ
input_terms = 4096

abbrev pub room_terms : ℕ
room_terms = 16777216

-- the refusal n where a test fails
abbrev pub unless : Bool → ℕ → ℕ → Report
unless passed n operand = pick passed none (refusal n operand 0)

-- the refusal n at term i, where i is one of the terms
abbrev pub at_term : ℕ → ℕ → ℕ → ℕ → Report
at_term n operand i count = pick (ltb i count) (refusal n operand i) none

-- The rules

unfoldable pub modulus_rule : ℕ → Report
modulus_rule p = unless (is_modulus p) 1 0

unfoldable pub odd_rule : ℕ → List ℕ → Report
odd_rule operand s = unless (eqb (length s % 2) 0) 2 operand

unfoldable pub long_rule : ℕ → ℕ → List ℕ → Report
long_rule most operand s = unless (leb (records s) most) 3 operand

unfoldable pub guard_rule : Layout → ℕ → List ℕ → Report
guard_rule l operand s = at_term 4 operand (first (guard_at l s) 0 (records s)) (records s)

unfoldable pub order_rule : ℕ → List ℕ → Report
order_rule operand s = at_term 5 operand (first (order_at s) 0 (records s)) (records s)

unfoldable pub coef_rule : ℕ → ℕ → List ℕ → Report
coef_rule p operand s = at_term 6 operand (first (bad_coef_at p s) 0 (records s)) (records s)

unfoldable pub divisor_rule : List ℕ → Report
divisor_rule g = unless (ltb 0 (records g)) 7 2

unfoldable pub work_rule : ℕ → List ℕ → Report
work_rule least work = unless (leb least (length work)) 8 5

-- The rules 1 to 6 as they stand in every call

pub record Lent : Type 0 where
  pub operand : ℕ
  pub words : List ℕ
  pub most : ℕ

abbrev pub lent : ℕ → List ℕ → ℕ → Lent
lent operand s most = record { operand = operand; words = s; most = most }

-- 2 and 3, over inputs and outputs together
abbrev pub shape_rules : List Lent → List Report
shape_rules slices = map (λ s. odd_rule s.operand s.words) slices ++ map (λ s. long_rule s.most s.operand s.words) slices

-- 4 and 5, over the inputs
abbrev pub order_rules : Layout → List Lent → List Report
order_rules l inputs = map (λ s. guard_rule l s.operand s.words) inputs ++ map (λ s. order_rule s.operand s.words) inputs

-- 6, over the inputs
abbrev pub coef_rules : ℕ → List Lent → List Report
coef_rules p inputs = map (λ s. coef_rule p s.operand s.words) inputs

abbrev pub refusals : Layout → ℕ → List Lent → List Lent → List Report
refusals l p inputs outputs = modulus_rule p ∷ shape_rules (inputs ++ outputs) ++ order_rules l inputs ++ coef_rules p inputs
