use mathlib.Core.Path.{◌≡◌, sym}
use native.Mathlib.Omega.{arith}
use Rattle.moduli.proofs.Trial.{tried_test, divided_not_prime}
use Rattle.moduli.proofs.is_prime.Goals as goal
use Rattle.moduli.proofs.is_prime.Goals.{else-loop-d-test, then-loop-d-test+then-p-d}

pub returns-then-p-d-eq0 : goal.returns-then-p-d-eq0
returns-then-p-d-eq0 c = sym (divided_not_prime {d = c.loop-d.d} (omega arith) (omega arith) c.if-p-d-eq0.true)

pub returns : goal.returns
returns c =
    elim c.loop-d-test.branch [
      | else-loop-d-test w ↦ let end : c.loop-d.d ≡ 46341 = omega arith in tried_test c.loop-d.invariant (rw end (omega arith))
      | then-loop-d-test+then-p-d w ↦ tried_test c.loop-d.invariant w.if-p-d.true
    ]
