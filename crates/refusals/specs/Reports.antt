-- Reports, as RULES Report has them: the number, an operand, a term index, and two term counts.
--
--   none                    number 0 and nothing told: no refusal is due
--   refusal n operand i     the refusal n, of an operand, at the term i
--   done first second       reply 0, with the terms of the two outputs
--   or_else a b             the refusal a if it is due, else b
--   first_or rs otherwise   the first refusal due of an ordered list, else the report given
--   Passed rs               no refusal of the list is due
--   FirstDue rs r           r stands in the list and is due, and all before it passed
use Rattle.std.specs.Prelude.{ℕ, ◌≡◌, List, [], ◌∷◌, ◌++◌, eqb}
use Rattle.algebra.specs.Residues.{pick}
use Rattle.refusals.specs.declared.report.Report.{Report}

abbrev pub refusal : ℕ → ℕ → ℕ → Report
refusal n operand i = record { number = n; operand = operand; index = i; first = 0; second = 0 }

abbrev pub done : ℕ → ℕ → Report
done first second = record { number = 0; operand = 0; index = 0; first = first; second = second }

abbrev pub none : Report
none = done 0 0

abbrev pub or_else : Report → Report → Report
or_else a b = pick (eqb a.number 0) b a

abbrev pub first_or : List Report → Report → Report
first_or [] otherwise = otherwise
first_or (r ∷ rs) otherwise = or_else r (first_or rs otherwise)

abbrev pub Passed : List Report → Type 0
Passed [] = Unit {0}
Passed (r ∷ rs) = (r.number ≡ 0) × Passed rs

pub record FirstDue (rs : List Report) (r : Report) : Type 0 where
  pub before : List Report
  pub after : List Report
  pub stands : rs ≡ before ++ r ∷ after
  pub passed : Passed before
  pub refuses : r.number ≡ 0 → ⊥
