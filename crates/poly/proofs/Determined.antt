-- Every public function that asks nothing takes anything and has one outcome: the contract is the one that the check generates from
-- the source, so that a theorem here fails when a contract says less.
--
--   NAME-asks_nothing    every argument is allowed
--   NAME-determined      two outcomes that the contract allows for the same arguments are equal
use mathlib.Core.Path.{◌≡◌, sym, ◌∙◌}
use Rattle.poly.proofs.profile.measure.Reads as measure
use Rattle.poly.proofs.room.clear.Reads as clear

pub measure-asks_nothing : (κs : _) (a : _) → measure.Pre κs a
measure-asks_nothing κs a = tt

pub measure-determined : (κs : _) (a : _) (r r' : _) (s s' : _) → measure.Post κs a r s → measure.Post κs a r' s' → r ≡ r'
measure-determined κs a r r' s s' p q = p ∙ sym q

pub clear-asks_nothing : (κs : _) (a : _) → clear.Pre κs a
clear-asks_nothing κs a = tt

pub clear-determined : (κs : _) (a : _) (r r' : _) (s s' : _) → clear.Post κs a r s → clear.Post κs a r' s' → s.0.now ≡ s'.0.now
clear-determined κs a r r' s s' p q = p ∙ sym q
