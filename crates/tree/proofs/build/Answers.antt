-- `tree::build` meets its contract.
use native.Mathlib.Omega.{arith}
use Rattle.tree.proofs.Planting.{build_more}
use Rattle.tree.proofs.build.Goals as goal

pub loop-at-preserved : goal.loop-at-preserved
loop-at-preserved c =
    build_more _ _ _ _ _ _ _ _ _ c.requires (omega arith) (omega arith) (omega arith) c.loop-at.invariant c.at-first.ensures c.at-second.ensures c.better.ensures c.put.ensures
