-- No contract leaves a second outcome, and the tests of the modulus ask nothing of their callers: the contract is the one that the check generates
-- from the source, so that a theorem here fails when a contract says less.
--
--   NAME-asks_nothing    every argument is allowed
--   NAME-determined      two results that the contract allows for the same arguments are equal
use mathlib.Core.Path.{◌≡◌, sym, ◌∙◌}
use Rattle.moduli.proofs.is_modulus.Reads as is-modulus
use Rattle.moduli.proofs.modulus.Reads as modulus
use Rattle.moduli.proofs.add_mod.Reads as add-mod
use Rattle.moduli.proofs.neg_mod.Reads as neg-mod
use Rattle.moduli.proofs.mul_mod.Reads as mul-mod
use Rattle.moduli.proofs.inverse_mod.Reads as inverse-mod

pub is_modulus-asks_nothing : (κs : _) (a : _) → is-modulus.Pre κs a
is_modulus-asks_nothing κs a = tt

pub is_modulus-determined : (κs : _) (a : _) (r r' : _) (s s' : _) → is-modulus.Post κs a r s → is-modulus.Post κs a r' s' → r ≡ r'
is_modulus-determined κs a r r' s s' e f = e ∙ sym f

pub modulus-asks_nothing : (κs : _) (a : _) → modulus.Pre κs a
modulus-asks_nothing κs a = tt

pub modulus-determined : (κs : _) (a : _) (r r' : _) (s s' : _) → modulus.Post κs a r s → modulus.Post κs a r' s' → r ≡ r'
modulus-determined κs a r r' s s' e f = e ∙ sym f

pub add_mod-determined : (κs : _) (a : _) (r r' : _) (s s' : _) → add-mod.Post κs a r s → add-mod.Post κs a r' s' → r ≡ r'
add_mod-determined κs a r r' s s' e f = e ∙ sym f

pub neg_mod-determined : (κs : _) (a : _) (r r' : _) (s s' : _) → neg-mod.Post κs a r s → neg-mod.Post κs a r' s' → r ≡ r'
neg_mod-determined κs a r r' s s' e f = e ∙ sym f

pub mul_mod-determined : (κs : _) (a : _) (r r' : _) (s s' : _) → mul-mod.Post κs a r s → mul-mod.Post κs a r' s' → r ≡ r'
mul_mod-determined κs a r r' s s' e f = e ∙ sym f

pub inverse_mod-determined : (κs : _) (a : _) (r r' : _) (s s' : _) → inverse-mod.Post κs a r s → inverse-mod.Post κs a r' s' → r ≡ r'
inverse_mod-determined κs a r r' s s' e f = e ∙ sym f
