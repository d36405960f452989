-- `services::run::run` meets its contract.
use Prim.Native.Nat.{◌≤◌}
use native.Mathlib.Omega.{arith}
use lib.ListN.{length}
use Rattle.services.proofs.Parts.{run_within}
use Rattle.services.proofs.run.run.Goals as goal
use Rattle.services.proofs.run.run.Goals.{After-run_part-part}

-- the part is within the slice
within : (c : After-run_part-part) → (c.run_part-part.result.start ≤ c.run_part-part.result.end) × (c.run_part-part.result.end ≤ length c.args.s.now)
within c = rw c.run_part-part.ensures (run_within c.args.s.now c.args.power)

pub offset_bounds-s-part : goal.offset_bounds-s-part
offset_bounds-s-part c = omega (arith, within (goal.at.offset_bounds-s-part c).After-run_part-part)

pub slice_bounds-result-count : goal.slice_bounds-result-count
slice_bounds-result-count c = omega (arith, within (goal.at.slice_bounds-result-count c).After-run_part-part)

pub slice_bounds-result-start : goal.slice_bounds-result-start
slice_bounds-result-start c = omega (arith, within (goal.at.slice_bounds-result-start c).After-run_part-part)

pub slice_bounds-result-end : goal.slice_bounds-result-end
slice_bounds-result-end c = omega (arith, within (goal.at.slice_bounds-result-end c).After-run_part-part)
