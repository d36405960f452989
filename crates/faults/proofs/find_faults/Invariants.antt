-- `faults::find_faults` meets its contract. The loop's invariant: each place is the first one from term i on.
use Prim.Native.Nat.{◌-◌}
use mathlib.Core.Path.{◌≡◌}
use Rattle.algebra.specs.Residues.{first}
use Rattle.monomial.specs.Layout.{base}
use Rattle.poly.specs.Words.{records}
use Rattle.faults.specs.Faults.{guard_at, order_at, bad_coef_at}
use Rattle.faults.proofs.find_faults.Given as goal

abbrev pub invariant-loop-i : goal.invariant-loop-i
invariant-loop-i l =
    record {
      guard : l.guard ≡ first (guard_at base l.s) l.i (records l.s - l.i);
      order : l.order ≡ first (order_at l.s) l.i (records l.s - l.i);
      coef : l.coef ≡ first (bad_coef_at l.p l.s) l.i (records l.s - l.i);
    }
