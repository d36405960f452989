-- Every public call takes any words, `word` aside, and has one answer.
--
--   CALL-asks_nothing   the call's contract requires nothing
--   CALL-determined     two answers that the call's contract allows are the same
use mathlib.Core.Path.{◌≡◌, sym, ◌∙◌}
use Rattle.field.proofs.Results.{same_result}
use Rattle.monomial.proofs.is_monomial.Reads as is-monomial
use Rattle.monomial.proofs.exponent.Reads as exponent
use Rattle.monomial.proofs.pack.Reads as pack
use Rattle.monomial.proofs.word.Reads as word
use Rattle.monomial.proofs.unpack.Reads as unpack
use Rattle.monomial.proofs.multiply.Reads as multiply
use Rattle.monomial.proofs.divides.Reads as divides
use Rattle.monomial.proofs.divide.Reads as divide

pub is_monomial-asks_nothing : (κs : _) (a : _) → is-monomial.Pre κs a
is_monomial-asks_nothing κs a = tt

pub is_monomial-determined : (κs : _) (a : _) (r r' : _) (s s' : _) → is-monomial.Post κs a r s → is-monomial.Post κs a r' s' → r ≡ r'
is_monomial-determined κs a r r' s s' p q = p ∙ sym q

pub exponent-asks_nothing : (κs : _) (a : _) → exponent.Pre κs a
exponent-asks_nothing κs a = tt

pub exponent-determined : (κs : _) (a : _) (r r' : _) (s s' : _) → exponent.Post κs a r s → exponent.Post κs a r' s' → r ≡ r'
exponent-determined κs a r r' s s' p q = p ∙ sym q

pub pack-asks_nothing : (κs : _) (a : _) → pack.Pre κs a
pack-asks_nothing κs a = tt

pub pack-determined : (κs : _) (a : _) (r r' : _) (s s' : _) → pack.Post κs a r s → pack.Post κs a r' s' → r ≡ r'
pack-determined κs a r r' s s' p q = p ∙ sym q

pub word-determined : (κs : _) (a : _) (r r' : _) (s s' : _) → word.Post κs a r s → word.Post κs a r' s' → r ≡ r'
word-determined κs a r r' s s' p q = p ∙ sym q

pub unpack-asks_nothing : (κs : _) (a : _) → unpack.Pre κs a
unpack-asks_nothing κs a = tt

pub unpack-determined : (κs : _) (a : _) (r r' : _) (s s' : _) → unpack.Post κs a r s → unpack.Post κs a r' s' → r ≡ r'
unpack-determined κs a r r' s s' p q = p ∙ sym q

pub multiply-asks_nothing : (κs : _) (a : _) → multiply.Pre κs a
multiply-asks_nothing κs a = tt

pub multiply-determined : (κs : _) (a : _) (r r' : _) (s s' : _) → multiply.Post κs a r s → multiply.Post κs a r' s' → r ≡ r'
multiply-determined κs a r r' s s' p q = same_result r r' (p ∙ sym q)

pub divides-asks_nothing : (κs : _) (a : _) → divides.Pre κs a
divides-asks_nothing κs a = tt

pub divides-determined : (κs : _) (a : _) (r r' : _) (s s' : _) → divides.Post κs a r s → divides.Post κs a r' s' → r ≡ r'
divides-determined κs a r r' s s' p q = p ∙ sym q

pub divide-asks_nothing : (κs : _) (a : _) → divide.Pre κs a
divide-asks_nothing κs a = tt

pub divide-determined : (κs : _) (a : _) (r r' : _) (s s' : _) → divide.Post κs a r s → divide.Post κs a r' s' → r ≡ r'
divide-determined κs a r r' s s' p q = same_result r r' (p ∙ sym q)
