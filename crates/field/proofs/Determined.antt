-- Each operation of RULES Field and Balanced asks nothing of its caller, and no contract leaves a second outcome: the contract is the one that the check generates from the source, so
-- that a theorem here fails when a contract says less.
--
--   NAME-asks_nothing    every argument is allowed
--   NAME-determined      two results that the contract allows for the same arguments are equal
use mathlib.Core.Path.{◌≡◌, sym, ◌∙◌}
use Rattle.field.proofs.sum.Reads as sum
use Rattle.field.proofs.product.Reads as product
use Rattle.field.proofs.inverse.Reads as inverse
use Rattle.field.proofs.balanced.Reads as balanced
use Rattle.field.proofs.residue.Reads as residue

pub sum-asks_nothing : (κs : _) (a : _) → sum.Pre κs a
sum-asks_nothing κs a = tt

pub sum-determined : (κs : _) (a : _) (r r' : _) (s s' : _) → sum.Post κs a r s → sum.Post κs a r' s' → r ≡ r'
sum-determined κs a r r' s s' e f = e ∙ sym f

pub product-asks_nothing : (κs : _) (a : _) → product.Pre κs a
product-asks_nothing κs a = tt

pub product-determined : (κs : _) (a : _) (r r' : _) (s s' : _) → product.Post κs a r s → product.Post κs a r' s' → r ≡ r'
product-determined κs a r r' s s' e f = e ∙ sym f

pub inverse-asks_nothing : (κs : _) (a : _) → inverse.Pre κs a
inverse-asks_nothing κs a = tt

pub inverse-determined : (κs : _) (a : _) (r r' : _) (s s' : _) → inverse.Post κs a r s → inverse.Post κs a r' s' → r ≡ r'
inverse-determined κs a r r' s s' e f = e ∙ sym f

pub balanced-asks_nothing : (κs : _) (a : _) → balanced.Pre κs a
balanced-asks_nothing κs a = tt

pub balanced-determined : (κs : _) (a : _) (r r' : _) (s s' : _) → balanced.Post κs a r s → balanced.Post κs a r' s' → r ≡ r'
balanced-determined κs a r r' s s' e f = e ∙ sym f

pub residue-asks_nothing : (κs : _) (a : _) → residue.Pre κs a
residue-asks_nothing κs a = tt

pub residue-determined : (κs : _) (a : _) (r r' : _) (s s' : _) → residue.Post κs a r s → residue.Post κs a r' s' → r ≡ r'
residue-determined κs a r r' s s' e f = e ∙ sym f
