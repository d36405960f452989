-- The cases of the sheet.
--
--   report_of says      the report that a case has to answer
--   fits case           the rooms and the work array of a case are no longer than the arrays that are lent, and random polynomials have
--                       a coefficient
--   Fits case, AllFit   the same as a fact, of a case and of each of a list
--   Gives case found    what a case gave is what the definition of its call says of it, and of random divisions at most all are right
--   is_right found      all is as the sheet says
use Rattle.std.specs.Prelude.{ℕ, ◌*◌, ◌≤◌, ◌≡◌, Bool, true, ◌&&◌, List, eqb, leb, ltb}
use Rattle.std.specs.List.{list_all}
use Rattle.reasons.specs.Reasons.{number_of}
use Rattle.refusals.specs.declared.report.Report.{Report}
use Rattle.refusals.specs.Reports.{done, refusal}
use Rattle.claims.specs.Sheet.{balanced, balance}
use Rattle.rows.specs.Cases.{trial, product_row, division_row, test_row, modulus_trial}
use Rattle.sheet.specs.declared.cases.Says.{Says}
use Rattle.sheet.specs.declared.cases.Says.TheVariants.{Done, Stop}
use Rattle.sheet.specs.declared.cases.Case.{Case}
use Rattle.sheet.specs.declared.cases.Case.TheVariants.{Product, Division, QuotientArray, DivideTest, Check, Balanced, Divisions}
use Rattle.sheet.specs.declared.cases.Found.{Found}
use Rattle.sheet.specs.declared.cases.Found.TheVariants.{Reply, Draws}

abbrev pub report_of : Says → Report
report_of (Done first second) = done first second
report_of (Stop reason operand) = refusal (number_of reason) operand 0

abbrev pub fits : Case → Bool
fits (Product row p a b room work says product) = leb (2 * room) 16384 && leb work 16384
fits (Division row p f g q r work says quotient remainder) = leb (2 * q) 16384 && leb (2 * r) 16384 && leb work 16384
fits (QuotientArray row p f g q r work says quotient remainder) = leb (2 * q) 16384 && leb (2 * r) 16384 && leb work 16384
fits (DivideTest row p f g q work says quotient) = leb (2 * q) 16384 && leb work 16384
fits (Check row p a says) = true
fits (Balanced row p c value) = true
fits (Divisions row p) = ltb 1 p

pub record Fits (case : Case) : Type 0 where
  pub passed : fits case ≡ true

pub record AllFit (cases : List Case) : Type 0 where
  pub passed : list_all fits cases ≡ true

abbrev pub Gives : Case → Found → Type 0
Gives (Product row p a b room work says product) found =
    found ≡ Reply (trial (product_row p a.0.now b.0.now room work (report_of says) product.0.now))
Gives (Division row p f g q r work says quotient remainder) found =
    found ≡ Reply (trial (division_row p f.0.now g.0.now q r work (report_of says) quotient.0.now remainder.0.now))
Gives (QuotientArray row p f g q r work says quotient remainder) found =
    found ≡ Reply (trial (division_row p f.0.now g.0.now q r work (report_of says) quotient.0.now remainder.0.now))
Gives (DivideTest row p f g q work says quotient) found =
    found ≡ Reply (trial (test_row p f.0.now g.0.now q work (report_of says) quotient.0.now))
Gives (Check row p a says) found = found ≡ Reply (modulus_trial p a.0.now (report_of says))
Gives (Balanced row p c value) found = found ≡ Reply (trial (balanced p c (balance 0 value)))
Gives (Divisions row p) found = (n : ℕ) × (found ≡ Draws n) × (n ≤ 400)

abbrev pub is_right : Found → Bool
is_right (Reply tried) = tried.right
is_right (Draws n) = eqb n 400
