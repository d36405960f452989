-- Reasons and numbers fix one another, and nothing is asked of a caller.
--
--   number-asks_nothing, try_from-asks_nothing   every argument is allowed
--   number-determined, try_from-determined       two results that the contract allows for the same argument are equal
use Rattle.std.proofs.Common.{◌≡◌, sym, ◌∙◌}
use Rattle.reasons.proofs.Laws.{named_once}
use Rattle.reasons.proofs.Reason.number.Reads as number
use Rattle.reasons.proofs.ReasonTryFromU64.try_from.Reads as try-from

pub number-asks_nothing : (κs : _) (a : _) → number.Pre κs a
number-asks_nothing κs a = tt

pub number-determined : (κs : _) (a : _) (r r' : _) (s s' : _) → number.Post κs a r s → number.Post κs a r' s' → r ≡ r'
number-determined κs a r r' s s' e f = e ∙ sym f

pub try_from-asks_nothing : (κs : _) (a : _) → try-from.Pre κs a
try_from-asks_nothing κs a = tt

pub try_from-determined : (κs : _) (a : _) (r r' : _) (s s' : _) → try-from.Post κs a r s → try-from.Post κs a r' s' → r ≡ r'
try_from-determined κs a r r' s s' e f = named_once a.0 r r' e f
