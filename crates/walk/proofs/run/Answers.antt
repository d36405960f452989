use mathlib.Core.Path.{refl}
use native.Mathlib.Omega.{arith}
use Rattle.poly.proofs.Maxima.{words_small}
use Rattle.walk.proofs.Looping.{runs_first, grows_on, runs_on, runs_ended}
use Rattle.walk.proofs.run.Goals as goal

-- Places: where the function starts, by the cleared front; the cleared front, by the loop; the loop and its growing, in a turn

pub greatest_key-k-requires : goal.greatest_key-k-requires
greatest_key-k-requires c = words_small _ _ c.args.plan.now.ready.dividend _

pub loop-k-init : goal.loop-k-init
loop-k-init c =
    runs_first c.requires c.greatest_key-k.ensures _ _ c.clear_front.ensures (omega arith) (omega arith) (omega arith)
    (λ h. omega arith)

pub step-requires : goal.step-requires
step-requires c =
    let grew = grows_on c.loop-k.invariant c.enough_rows-rows.ensures in record {
      head = (c.loop-k-test.true, grew.top, grew.free);
      walking = grew.walking;
    }

pub greatest_key-k-requires-in-loop-k : goal.greatest_key-k-requires-in-loop-k
greatest_key-k-requires-in-loop-k c = words_small _ _ c.args.plan.now.ready.dividend _

pub loop-k-preserved : goal.loop-k-preserved
loop-k-preserved c =
    runs_on c.loop-k.invariant c.enough_rows-rows.ensures c.in_ok-s.ensures _ refl c.greatest_key-k-in-loop-k.ensures

pub returns : goal.returns
returns c = runs_ended c.loop-k.invariant c.clear_front.ensures.0 c.loop-k-test.false
