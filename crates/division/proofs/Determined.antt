-- Every public function that asks nothing takes anything and has one outcome: the contract is the one that the check generates from
-- the source, so that a theorem here fails when a contract says less.
--
--   NAME-asks_nothing    every argument is allowed
--   NAME-determined      two outcomes that the contract allows for the same arguments are equal
use mathlib.Core.Path.{◌≡◌, sym, ◌∙◌}
use mathlib.Core.List.{[]}
use Rattle.calls.specs.Outcomes.{outcome}
use Rattle.division.proofs.rules.last_rules.Reads as last-rules
use Rattle.division.proofs.division.divide.Reads as divide
use Rattle.division.proofs.test.divides.Reads as divides

pub last_rules-asks_nothing : (κs : _) (a : _) → last-rules.Pre κs a
last_rules-asks_nothing κs a = tt

pub last_rules-determined : (κs : _) (a : _) (r r' : _) (s s' : _) → last-rules.Post κs a r s → last-rules.Post κs a r' s' → r ≡ r'
last_rules-determined κs a r r' s s' p q = p ∙ sym q

pub divide-asks_nothing : (κs : _) (a : _) → divide.Pre κs a
divide-asks_nothing κs a = tt

pub divide-determined : (κs : _) (a : _) (r r' : _) (s s' : _) → divide.Post κs a r s → divide.Post κs a r' s' →
    outcome r s.1.1.1.0.now s.1.1.1.1.0.now s.1.1.1.1.1.0.now ≡
    outcome r' s'.1.1.1.0.now s'.1.1.1.1.0.now s'.1.1.1.1.1.0.now
divide-determined κs a r r' s s' p q = p ∙ sym q

pub divides-asks_nothing : (κs : _) (a : _) → divides.Pre κs a
divides-asks_nothing κs a = tt

pub divides-determined : (κs : _) (a : _) (r r' : _) (s s' : _) → divides.Post κs a r s → divides.Post κs a r' s' →
    outcome r s.1.1.1.0.now [] s.1.1.1.1.0.now ≡ outcome r' s'.1.1.1.0.now [] s'.1.1.1.1.0.now
divides-determined κs a r r' s s' p q = p ∙ sym q
