-- The rows of the sheet as they are tried.
--
--   product_row p a b n k ..   the row of a product with a room of n terms and k work words, lent as above, and what it has to leave
--   division_row, test_row     the same of a division and of a divide test
--   number_of row              the number that the call of a row answers
--   trial row                  the same, and whether the row is right
--   modulus_trial p a says     the same of a check, which no row of the sheet's list is
use Rattle.std.specs.Prelude.{ℕ, ◌*◌, List, []}
use Rattle.field.specs.Answers.{balanced_of}
use Rattle.refusals.specs.declared.report.Report.{Report}
use Rattle.services.specs.Services.{check_of}
use Rattle.product.specs.Products.{product_of}
use Rattle.division.specs.Division.{divide_of, test_of}
use Rattle.claims.specs.Sheet.{Row, product, division, divide_test, balanced, right}
use Rattle.compared.specs.Compared.{same_report, all_dirt, said}
use Rattle.rows.specs.declared.Tried.{Tried}

-- Rows

abbrev pub product_row : ℕ → List ℕ → List ℕ → ℕ → ℕ → Report → List ℕ → Row
product_row p a b n k says ws = product p a b (all_dirt (2 * n)) (all_dirt k) (said says ws [] (2 * n) 0 k)

abbrev pub division_row : ℕ → List ℕ → List ℕ → ℕ → ℕ → ℕ → Report → List ℕ → List ℕ → Row
division_row p f g n m k says ws vs =
    division p f g (all_dirt (2 * n)) (all_dirt (2 * m)) (all_dirt k) (said says ws vs (2 * n) (2 * m) k)

abbrev pub test_row : ℕ → List ℕ → List ℕ → ℕ → ℕ → Report → List ℕ → Row
test_row p f g n k says ws = divide_test p f g (all_dirt (2 * n)) (all_dirt k) (said says ws [] (2 * n) 0 k)

-- Rows tried

abbrev pub number_of : Row → ℕ
number_of (product p a b room work leaves) = (product_of p a b room work).report.number
number_of (division p f g q r work leaves) = (divide_of p f g q r work).report.number
number_of (divide_test p f g q work leaves) = (test_of p f g q work).report.number
number_of (balanced p c answers) = (balanced_of p c).number

abbrev pub trial : Row → Tried
trial row = record { number = number_of row; right = right row }

abbrev pub modulus_trial : ℕ → List ℕ → Report → Tried
modulus_trial p a says = record { number = (check_of p a).number; right = same_report (check_of p a) says }
