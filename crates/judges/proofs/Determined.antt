-- Every public function that asks nothing takes anything and has one outcome: the contract is the one that the check generates from
-- the source, so that a theorem here fails when a contract says less.
--
--   NAME-asks_nothing    every argument is allowed
--   NAME-determined      two outcomes that the contract allows for the same arguments are equal
use mathlib.Core.Path.{◌≡◌, sym, ◌∙◌}
use Rattle.reasons.proofs.Laws.{same_answer}
use Rattle.judges.proofs.judge_remainder.Reads as judge-remainder

pub judge_remainder-asks_nothing : (κs : _) (a : _) → judge-remainder.Pre κs a
judge_remainder-asks_nothing κs a = tt

pub judge_remainder-determined : (κs : _) (a : _) (r r' : _) (s s' : _) → judge-remainder.Post κs a r s → judge-remainder.Post κs a r' s' → r ≡ r'
judge_remainder-determined κs a r r' s s' p q = same_answer r r' (p ∙ sym q)
