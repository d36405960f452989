-- Every public function that asks nothing takes anything and has one outcome: the contract is the one that the check generates from
-- the source, so that a theorem here fails when a contract says less.
--
--   NAME-asks_nothing    every argument is allowed
--   NAME-determined      two outcomes that the contract allows for the same arguments are equal
use mathlib.Core.Path.{◌≡◌, sym, ◌∙◌}
use Rattle.heads.proofs.root.Reads as root

pub root-asks_nothing : (κs : _) (a : _) → root.Pre κs a
root-asks_nothing κs a = tt

pub root-determined : (κs : _) (a : _) (r r' : _) (s s' : _) → root.Post κs a r s → root.Post κs a r' s' → r ≡ r'
root-determined κs a r r' s s' p q = p ∙ sym q
