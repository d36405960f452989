-- Every public function that asks nothing takes anything and has one outcome: the contract is the one that the check generates from
-- the source, so that a theorem here fails when a contract says less.
--
--   NAME-asks_nothing    every argument is allowed
--   NAME-determined      two outcomes that the contract allows for the same arguments are equal
use mathlib.Core.Path.{◌≡◌, sym, ◌∙◌}
use mathlib.Core.List.{[]}
use Rattle.calls.specs.Outcomes.{outcome}
use Rattle.sums.proofs.sum.Reads as sum
use Rattle.sums.proofs.difference.Reads as difference

pub sum-asks_nothing : (κs : _) (a : _) → sum.Pre κs a
sum-asks_nothing κs a = tt

pub sum-determined : (κs : _) (a : _) (r r' : _) (s s' : _) → sum.Post κs a r s → sum.Post κs a r' s' →
    outcome r s.1.1.1.0.now [] [] ≡ outcome r' s'.1.1.1.0.now [] []
sum-determined κs a r r' s s' p q = p ∙ sym q

pub difference-asks_nothing : (κs : _) (a : _) → difference.Pre κs a
difference-asks_nothing κs a = tt

pub difference-determined : (κs : _) (a : _) (r r' : _) (s s' : _) → difference.Post κs a r s → difference.Post κs a r' s' →
    outcome r s.1.1.1.0.now [] [] ≡ outcome r' s'.1.1.1.0.now [] []
difference-determined κs a r r' s s' p q = p ∙ sym q
