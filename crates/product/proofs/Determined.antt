-- Every public function that asks nothing takes anything and has one outcome: the contract is the one that the check generates from
-- the source, so that a theorem here fails when a contract says less.
--
--   NAME-asks_nothing    every argument is allowed
--   NAME-determined      two outcomes that the contract allows for the same arguments are equal
use mathlib.Core.Path.{◌≡◌, sym, ◌∙◌}
use mathlib.Core.List.{[]}
use Rattle.calls.specs.Outcomes.{outcome}
use Rattle.product.proofs.product.Reads as product

pub product-asks_nothing : (κs : _) (a : _) → product.Pre κs a
product-asks_nothing κs a = tt

pub product-determined : (κs : _) (a : _) (r r' : _) (s s' : _) → product.Post κs a r s → product.Post κs a r' s' →
    outcome r s.1.1.1.0.now [] s.1.1.1.1.0.now ≡ outcome r' s'.1.1.1.0.now [] s'.1.1.1.1.0.now
product-determined κs a r r' s s' p q = p ∙ sym q
