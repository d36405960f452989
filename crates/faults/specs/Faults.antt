-- What can be wrong with a term, as RULES Replies has it in 4, 5 and 6.
--
--   guard_at l s i      a guard bit is set in the monomial of term i
--   order_at s i        the monomial of term i is not below the one before
--   bad_coef_at p s i   the coefficient of term i is 0 or at least p
--   faults_of l p s     the first term with each of them in a slice; the number of terms where there is none
use Rattle.std.specs.Prelude.{ℕ, zero, suc, Bool, false, not, ◌||◌, List, eqb, leb}
use Rattle.algebra.specs.Residues.{first}
use Rattle.monomial.specs.Layout.{Layout, is_monomial}
use Rattle.poly.specs.Words.{records, word_at, coef_at}
use Rattle.faults.specs.declared.Faults.{Faults}

unfoldable pub guard_at : Layout → List ℕ → ℕ → Bool
guard_at l s i = not (is_monomial l (word_at s i))

unfoldable pub order_at : List ℕ → ℕ → Bool
order_at s zero = false
order_at s (suc i) = leb (word_at s i) (word_at s (suc i))

unfoldable pub bad_coef_at : ℕ → List ℕ → ℕ → Bool
bad_coef_at p s i = eqb (coef_at s i) 0 || leb p (coef_at s i)

-- the first place of 4, of 5 and of 6, and the number of terms where there is none
unfoldable pub faults_of : Layout → ℕ → List ℕ → Faults
faults_of l p s =
    record {
      guard = first (guard_at l s) 0 (records s);
      order = first (order_at s) 0 (records s);
      coef = first (bad_coef_at p s) 0 (records s);
    }
