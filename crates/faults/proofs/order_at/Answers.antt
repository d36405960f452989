-- `faults::order_at` meets its contract.
use Prim.Native.Nat.{ℕ, zero, suc, ◌-◌, ◌<◌}
use mathlib.Core.Path.{◌≡◌, sym, ap}
use mathlib.Core.List.{List}
use native.Mathlib.Omega.{arith}
use lib.Dec.{leb}
use Rattle.poly.specs.Words.{word_at}
use Rattle.faults.specs.Faults.{order_at}
use Rattle.faults.proofs.order_at.Goals as goal

-- the order test of a term that has one before it
order-later : (s : List ℕ) (i : ℕ) → 0 < i → order_at s i ≡ leb (word_at s (i - 1)) (word_at s i)
unfolding order_at
order-later s zero h = absurd (omega arith)
order-later s (suc i) h = let e : i ≡ suc i - 1 = omega arith in ap (λ x. leb (word_at s x) (word_at s (suc i))) e

pub returns-then-i-gt0 : goal.returns-then-i-gt0
returns-then-i-gt0 c = sym (order-later c.args.s.now c.args.i c.if-i-gt0.true)

pub returns-else-i-gt0 : goal.returns-else-i-gt0
unfolding order_at
returns-else-i-gt0 c = let none : c.args.i ≡ 0 = omega arith in rw none
