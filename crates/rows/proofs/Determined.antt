-- Every public function has one outcome, and each that has no `requires` takes anything: the contract is the one that the check
-- generates from the source, so that a theorem here fails when a contract says less.
--
--   NAME-asks_nothing    every argument is allowed
--   NAME-determined      two outcomes that the contract allows for the same arguments are equal
use mathlib.Core.Path.{◌≡◌, sym, ◌∙◌}
use Rattle.rows.proofs.fields.modulus_tried.Reads as modulus-tried
use Rattle.rows.proofs.fields.balanced_tried.Reads as balanced-tried
use Rattle.rows.proofs.polys.product_tried.Reads as product-tried
use Rattle.rows.proofs.polys.division_tried.Reads as division-tried
use Rattle.rows.proofs.polys.test_tried.Reads as test-tried

pub modulus_tried-asks_nothing : (κs : _) (a : _) → modulus-tried.Pre κs a
modulus_tried-asks_nothing κs a = tt

pub modulus_tried-determined : (κs : _) (a : _) (r r' : _) (s s' : _) → modulus-tried.Post κs a r s → modulus-tried.Post κs a r' s' → r ≡ r'
modulus_tried-determined κs a r r' s s' p q = p ∙ sym q

pub balanced_tried-asks_nothing : (κs : _) (a : _) → balanced-tried.Pre κs a
balanced_tried-asks_nothing κs a = tt

pub balanced_tried-determined : (κs : _) (a : _) (r r' : _) (s s' : _) → balanced-tried.Post κs a r s → balanced-tried.Post κs a r' s' → r ≡ r'
balanced_tried-determined κs a r r' s s' p q = p ∙ sym q

pub product_tried-determined : (κs : _) (a : _) (r r' : _) (s s' : _) → product-tried.Post κs a r s → product-tried.Post κs a r' s' → r ≡ r'
product_tried-determined κs a r r' s s' p q = p ∙ sym q

pub division_tried-determined : (κs : _) (a : _) (r r' : _) (s s' : _) → division-tried.Post κs a r s → division-tried.Post κs a r' s' → r ≡ r'
division_tried-determined κs a r r' s s' p q = p ∙ sym q

pub test_tried-determined : (κs : _) (a : _) (r r' : _) (s s' : _) → test-tried.Post κs a r s → test-tried.Post κs a r' s' → r ≡ r'
test_tried-determined κs a r r' s s' p q = p ∙ sym q
