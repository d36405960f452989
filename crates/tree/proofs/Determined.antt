-- A record of a work array has one reading, and one writing: the contracts are those that the check generates from the source, so that
-- a theorem here fails when a contract says less.
--
--   NAME-determined   two outcomes that the contract allows for the same arguments are equal
use mathlib.Core.Path.{◌≡◌, sym, ◌∙◌}
use Rattle.tree.proofs.Node.at.Reads as at
use Rattle.tree.proofs.Node.put.Reads as put

pub at-determined : (κs : _) (a : _) (r r' : _) (s s' : _) → at.Post κs a r s → at.Post κs a r' s' → r ≡ r'
at-determined κs a r r' s s' p q = p ∙ sym q

pub put-determined : (κs : _) (a : _) (r r' : _) (s s' : _) → put.Post κs a r s → put.Post κs a r' s' → s.1.0.now ≡ s'.1.0.now
put-determined κs a r r' s s' p q = p ∙ sym q
