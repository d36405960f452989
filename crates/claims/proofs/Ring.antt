-- The polynomials in four letters over the integers modulo p.
--
--   ring     they are a commutative ring, for any p that is not 0
use Prim.Native.Nat.{ℕ, ◌<◌}
use mathlib.Core.Path.{subst}
use mathlib.Core.List.{[], ◌++◌, append-nil}
use Rattle.algebra.specs.Orders.{Lex}
use Rattle.algebra.specs.Polynomials.{Equal}
use Rattle.algebra.proofs.NormalForm.{equal_refl, equal_sym, equal_trans}
use Rattle.algebra.proofs.Ring.{sum_comm, sum_assoc, sum_negated, sum_equal, mul_comm, mul_assoc, mul_one, mul_sum, mul_equal}
use Rattle.claims.specs.Demands.{P, Ring}

pub ring : (p : ℕ) → 0 < p → Ring p
ring p h =
    record {
      same = λ f. equal_refl;
      back = λ f g. equal_sym;
      on = λ f g k. equal_trans;
      sum_same = λ f f' g g'. sum_equal (Lex 4) h;
      sum_assoc = sum_assoc;
      sum_comm = sum_comm;
      sum_zero = λ f. subst (λ (k : P). Equal p (f ++ []) k) (append-nil f) equal_refl;
      sum_negated = sum_negated h;
      mul_same = λ f f' g g'. mul_equal (Lex 4) h;
      mul_assoc = mul_assoc;
      mul_comm = mul_comm;
      mul_one = mul_one;
      mul_sum = mul_sum;
    }
