-- `judges::judge_quotient` meets its contract.
use native.Mathlib.Omega.{arith}
use Rattle.monomial.specs.Layout.{base}
use Rattle.monomial.proofs.Laws.{sum_below}
use Rattle.judges.proofs.judge_quotient.Goals as goal

pub overflow_add-sum : goal.overflow_add-sum
overflow_add-sum c = omega (arith, sum_below base c.args.word c.args.judge.maxima c.requires.0 c.requires.1)
