-- Every public function has one outcome, and each that has no `requires` takes anything: the contract is the one that the check
-- generates from the source, so that a theorem here fails when a contract says less.
--
--   NAME-asks_nothing    every argument is allowed
--   NAME-determined      two outcomes that the contract allows for the same arguments are equal
use mathlib.Core.Path.{◌≡◌, sym, ◌∙◌}
use Rattle.compared.proofs.words.lent_words.Reads as lent-words
use Rattle.compared.proofs.words.same_report.Reads as same-report
use Rattle.compared.proofs.words.rest_of.Reads as rest_of
use Rattle.compared.proofs.words.holds.Reads as holds
use Rattle.compared.proofs.outcomes.outcome_said.Reads as outcome-said

pub lent_words-asks_nothing : (κs : _) (a : _) → lent-words.Pre κs a
lent_words-asks_nothing κs a = tt

pub lent_words-determined : (κs : _) (a : _) (r r' : _) (s s' : _) → lent-words.Post κs a r s → lent-words.Post κs a r' s' → r ≡ r'
lent_words-determined κs a r r' s s' p q = p.words ∙ sym q.words

pub same_report-asks_nothing : (κs : _) (a : _) → same-report.Pre κs a
same_report-asks_nothing κs a = tt

pub same_report-determined : (κs : _) (a : _) (r r' : _) (s s' : _) → same-report.Post κs a r s → same-report.Post κs a r' s' → r ≡ r'
same_report-determined κs a r r' s s' p q = p ∙ sym q

pub rest_of-asks_nothing : (κs : _) (a : _) → rest_of.Pre κs a
rest_of-asks_nothing κs a = tt

pub rest_of-determined : (κs : _) (a : _) (r r' : _) (s s' : _) → rest_of.Post κs a r s → rest_of.Post κs a r' s' → r ≡ r'
rest_of-determined κs a r r' s s' p q = p ∙ sym q

pub holds-asks_nothing : (κs : _) (a : _) → holds.Pre κs a
holds-asks_nothing κs a = tt

pub holds-determined : (κs : _) (a : _) (r r' : _) (s s' : _) → holds.Post κs a r s → holds.Post κs a r' s' → r ≡ r'
holds-determined κs a r r' s s' p q = p ∙ sym q

pub outcome_said-asks_nothing : (κs : _) (a : _) → outcome-said.Pre κs a
outcome_said-asks_nothing κs a = tt

pub outcome_said-determined : (κs : _) (a : _) (r r' : _) (s s' : _) → outcome-said.Post κs a r s → outcome-said.Post κs a r' s' → r ≡ r'
outcome_said-determined κs a r r' s s' p q = p ∙ sym q
