-- `tree::start` meets its contract.
use Rattle.tree.proofs.Planting.{starts}
use Rattle.tree.proofs.start.Goals as goal

pub returns : goal.returns
returns c = starts _ _ _ _ _ c.requires.within.0
    c.requires.within.1
    c.requires.within.2
    c.plant.ensures c.build.ensures
