-- `tree::add` meets its contract.
use Rattle.tree.proofs.Adding.{adds}
use Rattle.tree.proofs.add.Goals as goal

pub returns : goal.returns
returns c =
    adds _ _ _ _ _ _ c.requires.within.0 c.requires.within.1 c.requires.within.2 c.requires.within.3 c.requires.vacant.0 c.requires.vacant.1
    c.requires.vacant.2 c.requires.live _ c.new.ensures _ _ c.climb.ensures
