-- Every public function that asks nothing takes anything and has one outcome: the contract is the one that the check generates from
-- the source, so that a theorem here fails when a contract says less.
--
--   NAME-asks_nothing    every argument is allowed
--   NAME-determined      two outcomes that the contract allows for the same arguments are equal
use mathlib.Core.Path.{◌≡◌, sym, ◌∙◌}
use Rattle.numbers.proofs.choose.Reads as choose

pub choose-asks_nothing : (κs : _) (a : _) → choose.Pre κs a
choose-asks_nothing κs a = tt

pub choose-determined : (κs : _) (a : _) (r r' : _) (s s' : _) → choose.Post κs a r s → choose.Post κs a r' s' → r ≡ r'
choose-determined κs a r r' s s' p q = p ∙ sym q
