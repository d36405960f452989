use Rattle.moduli.proofs.Remainders.{remainders-start, remainders-step, remainders-inverse}
use Rattle.moduli.proofs.inverse_mod.Goals as goal

pub loop-next_rest-init : goal.loop-next_rest-init
loop-next_rest-init c = remainders-start c.requires.1 c.requires.2 c.requires.3

pub loop-next_rest-preserved : goal.loop-next_rest-preserved
loop-next_rest-preserved c = remainders-step c.loop-next_rest.invariant c.loop-next_rest-test.true

pub returns : goal.returns
returns c = remainders-inverse c.requires.1 c.loop-next_rest.invariant c.loop-next_rest-test.false
