-- The loop's invariant: the two last remainders with their factors. The measure is the lesser remainder.
use Rattle.moduli.proofs.Remainders.{Remainders}
use Rattle.moduli.proofs.inverse_mod.Given as goal

abbrev pub invariant-loop-next_rest : goal.invariant-loop-next_rest
invariant-loop-next_rest l = Remainders l.p l.a l.rest l.next_rest l.t l.next_t

abbrev pub decreases-loop-next_rest : goal.decreases-loop-next_rest
decreases-loop-next_rest l = l.next_rest
