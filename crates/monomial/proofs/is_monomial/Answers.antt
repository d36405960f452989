-- `monomial::is_monomial` meets its contract: the mask of guard bits, over four fields of sixteen bits.
use Rattle.monomial.proofs.Masks.{mask_monomial}
use Rattle.monomial.proofs.is_monomial.Goals as goal

pub returns : goal.returns
returns c = mask_monomial 15 4 c.args.word c.ranges.word.fits
