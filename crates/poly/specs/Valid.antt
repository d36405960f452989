-- Slices that are polynomials: what the refusals 2, 4, 5 and 6 leave.
--
--   Valid p s     whole records, monomial words that fall, coefficients 1 to p − 1
use Rattle.std.specs.Prelude.{ℕ, suc, ◌*◌, ◌<◌, ◌≡◌, true, List, length}
use Rattle.monomial.specs.Layout.{base, is_monomial}
use Rattle.poly.specs.Words.{records, word_at, coef_at}

pub record Valid (p : ℕ) (s : List ℕ) : Type 0 where
  pub even : length s ≡ 2 * records s
  pub monomials : (i : ℕ) → i < records s → is_monomial base (word_at s i) ≡ true
  pub falls : (i : ℕ) → suc i < records s → word_at s (suc i) < word_at s i
  pub coefs : (i : ℕ) → i < records s → (0 < coef_at s i) × (coef_at s i < p)
