-- The loop's invariant: no number from 2 and below d divides p.
use Rattle.moduli.proofs.Trial.{Tried}
use Rattle.moduli.proofs.is_prime.Given as goal

abbrev pub invariant-loop-d : goal.invariant-loop-d
invariant-loop-d l = Tried l.p l.d
