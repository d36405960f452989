-- `sheet::run::run` meets its contract.
use Rattle.std.proofs.Common.{◌≤◌}
use Rattle.sheet.proofs.run.run.Given as goal

abbrev pub invariant-loop-case : goal.invariant-loop-case
invariant-loop-case l = l.right ≤ l.case-index
