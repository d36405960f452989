-- Every public function that asks nothing takes anything and has one outcome: the contract is the one that the check generates from
-- the source, so that a theorem here fails when a contract says less.
--
--   NAME-asks_nothing    every argument is allowed
--   NAME-determined      two outcomes that the contract allows for the same arguments are equal
use mathlib.Core.Path.{◌≡◌, sym, ◌∙◌}
use Rattle.dues.proofs.Due.none.Reads as none
use Rattle.dues.proofs.Due.room.Reads as room
use Rattle.dues.proofs.Due.input.Reads as input
use Rattle.dues.proofs.Due.first.Reads as first

pub none-asks_nothing : (κs : _) (a : _) → none.Pre κs a
none-asks_nothing κs a = tt

pub none-determined : (κs : _) (a : _) (r r' : _) (s s' : _) → none.Post κs a r s → none.Post κs a r' s' → r ≡ r'
none-determined κs a r r' s s' p q = p ∙ sym q

pub room-asks_nothing : (κs : _) (a : _) → room.Pre κs a
room-asks_nothing κs a = tt

pub room-determined : (κs : _) (a : _) (r r' : _) (s s' : _) → room.Post κs a r s → room.Post κs a r' s' → r ≡ r'
room-determined κs a r r' s s' p q = p ∙ sym q

pub input-asks_nothing : (κs : _) (a : _) → input.Pre κs a
input-asks_nothing κs a = tt

pub input-determined : (κs : _) (a : _) (r r' : _) (s s' : _) → input.Post κs a r s → input.Post κs a r' s' → r ≡ r'
input-determined κs a r r' s s' p q = p ∙ sym q

pub first-asks_nothing : (κs : _) (a : _) → first.Pre κs a
first-asks_nothing κs a = tt

pub first-determined : (κs : _) (a : _) (r r' : _) (s s' : _) → first.Post κs a r s → first.Post κs a r' s' → r ≡ r'
first-determined κs a r r' s s' p q = p ∙ sym q
