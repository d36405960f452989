-- Every public function that asks nothing takes anything and has one outcome: the contract is the one that the check generates from
-- the source, so that a theorem here fails when a contract says less.
--
--   NAME-asks_nothing    every argument is allowed
--   NAME-determined      two outcomes that the contract allows for the same arguments are equal
use mathlib.Core.Path.{◌≡◌, sym, ◌∙◌}
use Rattle.faults.proofs.find_faults.Reads as find-faults

pub find_faults-asks_nothing : (κs : _) (a : _) → find-faults.Pre κs a
find_faults-asks_nothing κs a = tt

pub find_faults-determined : (κs : _) (a : _) (r r' : _) (s s' : _) → find-faults.Post κs a r s → find-faults.Post κs a r' s' → r ≡ r'
find_faults-determined κs a r r' s s' p q = p ∙ sym q
