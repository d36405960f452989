-- Every public function that asks nothing takes anything and has one outcome: the contract is the one that the check generates from
-- the source, so that a theorem here fails when a contract says less.
--
--   NAME-asks_nothing    every argument is allowed
--   NAME-determined      two outcomes that the contract allows for the same arguments are equal
use mathlib.Core.Path.{◌≡◌, sym, ◌∙◌}
use Rattle.calls.proofs.inputs.two_inputs.Reads as two-inputs
use Rattle.calls.proofs.ending.room_reply.Reads as room-reply
use Rattle.calls.proofs.ending.told.Reads as told
use Rattle.calls.proofs.ending.report_of.Reads as report-of

pub two_inputs-asks_nothing : (κs : _) (a : _) → two-inputs.Pre κs a
two_inputs-asks_nothing κs a = tt

pub two_inputs-determined : (κs : _) (a : _) (r r' : _) (s s' : _) → two-inputs.Post κs a r s → two-inputs.Post κs a r' s' → r ≡ r'
two_inputs-determined κs a r r' s s' p q = p ∙ sym q

pub room_reply-asks_nothing : (κs : _) (a : _) → room-reply.Pre κs a
room_reply-asks_nothing κs a = tt

pub room_reply-determined : (κs : _) (a : _) (r r' : _) (s s' : _) → room-reply.Post κs a r s → room-reply.Post κs a r' s' → r ≡ r'
room_reply-determined κs a r r' s s' p q = p.0 ∙ sym q.0

pub report_of-asks_nothing : (κs : _) (a : _) → report-of.Pre κs a
report_of-asks_nothing κs a = tt

pub report_of-determined : (κs : _) (a : _) (r r' : _) (s s' : _) → report-of.Post κs a r s → report-of.Post κs a r' s' → r ≡ r'
report_of-determined κs a r r' s s' p q = p ∙ sym q

pub told-asks_nothing : (κs : _) (a : _) → told.Pre κs a
told-asks_nothing κs a = tt

pub told-determined : (κs : _) (a : _) (r r' : _) (s s' : _) → told.Post κs a r s → told.Post κs a r' s' → r ≡ r'
told-determined κs a r r' s s' p q = p ∙ sym q
