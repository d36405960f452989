-- Every public function that asks nothing takes anything and has one outcome: the contract is the one that the check generates from
-- the source, so that a theorem here fails when a contract says less.
--
--   NAME-asks_nothing    every argument is allowed
--   NAME-determined      two outcomes that the contract allows for the same arguments are equal
use mathlib.Core.Path.{◌≡◌, sym, ◌∙◌}
use Rattle.refusals.proofs.report.refusal.Reads as refusal
use Rattle.refusals.proofs.report.done.Reads as done
use Rattle.refusals.proofs.report.or_else.Reads as or_else
use Rattle.refusals.proofs.report.Report.is_done.Reads as is_done
use Rattle.refusals.proofs.rules.unless.Reads as unless
use Rattle.refusals.proofs.rules.at_term.Reads as at-term
use Rattle.refusals.proofs.rules.modulus_rule.Reads as modulus-rule
use Rattle.refusals.proofs.rules.odd_rule.Reads as odd-rule
use Rattle.refusals.proofs.rules.long_rule.Reads as long-rule
use Rattle.refusals.proofs.rules.divisor_rule.Reads as divisor-rule
use Rattle.refusals.proofs.rules.work_rule.Reads as work-rule

pub refusal-asks_nothing : (κs : _) (a : _) → refusal.Pre κs a
refusal-asks_nothing κs a = tt

pub refusal-determined : (κs : _) (a : _) (r r' : _) (s s' : _) → refusal.Post κs a r s → refusal.Post κs a r' s' → r ≡ r'
refusal-determined κs a r r' s s' p q = p ∙ sym q

pub done-asks_nothing : (κs : _) (a : _) → done.Pre κs a
done-asks_nothing κs a = tt

pub done-determined : (κs : _) (a : _) (r r' : _) (s s' : _) → done.Post κs a r s → done.Post κs a r' s' → r ≡ r'
done-determined κs a r r' s s' p q = p ∙ sym q

pub or_else-asks_nothing : (κs : _) (a : _) → or_else.Pre κs a
or_else-asks_nothing κs a = tt

pub or_else-determined : (κs : _) (a : _) (r r' : _) (s s' : _) → or_else.Post κs a r s → or_else.Post κs a r' s' → r ≡ r'
or_else-determined κs a r r' s s' p q = p ∙ sym q

pub is_done-asks_nothing : (κs : _) (a : _) → is_done.Pre κs a
is_done-asks_nothing κs a = tt

pub is_done-determined : (κs : _) (a : _) (r r' : _) (s s' : _) → is_done.Post κs a r s → is_done.Post κs a r' s' → r ≡ r'
is_done-determined κs a r r' s s' p q = p ∙ sym q

pub unless-asks_nothing : (κs : _) (a : _) → unless.Pre κs a
unless-asks_nothing κs a = tt

pub unless-determined : (κs : _) (a : _) (r r' : _) (s s' : _) → unless.Post κs a r s → unless.Post κs a r' s' → r ≡ r'
unless-determined κs a r r' s s' p q = p ∙ sym q

pub at_term-asks_nothing : (κs : _) (a : _) → at-term.Pre κs a
at_term-asks_nothing κs a = tt

pub at_term-determined : (κs : _) (a : _) (r r' : _) (s s' : _) → at-term.Post κs a r s → at-term.Post κs a r' s' → r ≡ r'
at_term-determined κs a r r' s s' p q = p ∙ sym q

pub modulus_rule-asks_nothing : (κs : _) (a : _) → modulus-rule.Pre κs a
modulus_rule-asks_nothing κs a = tt

pub modulus_rule-determined : (κs : _) (a : _) (r r' : _) (s s' : _) → modulus-rule.Post κs a r s → modulus-rule.Post κs a r' s' → r ≡ r'
modulus_rule-determined κs a r r' s s' p q = p ∙ sym q

pub odd_rule-asks_nothing : (κs : _) (a : _) → odd-rule.Pre κs a
odd_rule-asks_nothing κs a = tt

pub odd_rule-determined : (κs : _) (a : _) (r r' : _) (s s' : _) → odd-rule.Post κs a r s → odd-rule.Post κs a r' s' → r ≡ r'
odd_rule-determined κs a r r' s s' p q = p ∙ sym q

pub long_rule-asks_nothing : (κs : _) (a : _) → long-rule.Pre κs a
long_rule-asks_nothing κs a = tt

pub long_rule-determined : (κs : _) (a : _) (r r' : _) (s s' : _) → long-rule.Post κs a r s → long-rule.Post κs a r' s' → r ≡ r'
long_rule-determined κs a r r' s s' p q = p ∙ sym q

pub divisor_rule-asks_nothing : (κs : _) (a : _) → divisor-rule.Pre κs a
divisor_rule-asks_nothing κs a = tt

pub divisor_rule-determined : (κs : _) (a : _) (r r' : _) (s s' : _) → divisor-rule.Post κs a r s → divisor-rule.Post κs a r' s' → r ≡ r'
divisor_rule-determined κs a r r' s s' p q = p ∙ sym q

pub work_rule-asks_nothing : (κs : _) (a : _) → work-rule.Pre κs a
work_rule-asks_nothing κs a = tt

pub work_rule-determined : (κs : _) (a : _) (r r' : _) (s s' : _) → work-rule.Post κs a r s → work-rule.Post κs a r' s' → r ≡ r'
work_rule-determined κs a r r' s s' p q = p ∙ sym q
