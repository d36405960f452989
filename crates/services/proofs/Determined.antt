-- Every public function that asks nothing takes anything and has one outcome: the contract is the one that the check generates from
-- the source, so that a theorem here fails when a contract says less.
--
--   NAME-asks_nothing    every argument is allowed
--   NAME-determined      two outcomes that the contract allows for the same arguments are equal
use mathlib.Core.Path.{◌≡◌, sym, ◌∙◌}
use Rattle.services.proofs.check.check.Reads as check
use Rattle.services.proofs.profile.profile_of.Reads as profile-of
use Rattle.services.proofs.run.run.Reads as run
use Rattle.services.proofs.run.run_part.Reads as run-part

pub check-asks_nothing : (κs : _) (a : _) → check.Pre κs a
check-asks_nothing κs a = tt

pub check-determined : (κs : _) (a : _) (r r' : _) (s s' : _) → check.Post κs a r s → check.Post κs a r' s' → r ≡ r'
check-determined κs a r r' s s' p q = p ∙ sym q

pub profile_of-asks_nothing : (κs : _) (a : _) → profile-of.Pre κs a
profile_of-asks_nothing κs a = tt

pub profile_of-determined : (κs : _) (a : _) (r r' : _) (s s' : _) → profile-of.Post κs a r s → profile-of.Post κs a r' s' → r ≡ r'
profile_of-determined κs a r r' s s' p q = p ∙ sym q

pub run-asks_nothing : (κs : _) (a : _) → run.Pre κs a
run-asks_nothing κs a = tt

pub run-determined :
    (κs : _) (a : _) (r r' : _) (s s' : _) → run.Post κs a r s → run.Post κs a r' s' → (r.now ≡ r'.now) × (r.ref_ptr ≡ r'.ref_ptr)
run-determined κs a r r' s s' p q = (p.0 ∙ sym q.0, p.1 ∙ sym q.1)

pub run_part-asks_nothing : (κs : _) (a : _) → run-part.Pre κs a
run_part-asks_nothing κs a = tt

pub run_part-determined : (κs : _) (a : _) (r r' : _) (s s' : _) → run-part.Post κs a r s → run-part.Post κs a r' s' → r ≡ r'
run_part-determined κs a r r' s s' p q = p ∙ sym q
