-- `expansion::burst_at` meets its contract.
use Rattle.std.proofs.Common.{refl, rules, arith}
use Rattle.std.proofs.lemmas.Iterator.{YieldsList-from_slice, YieldsList-from_zip, IsFirst-from_position}
use Rattle.std.proofs.lemmas.Iterator.Adapters.{serves_from_places}
use Rattle.expansion.proofs.Bursts.{Over, Within, burst-found, pair_small}
use Rattle.expansion.proofs.burst_at.Goals as goal

pub position-requires-clause-callable : goal.position-requires-clause-callable
position-requires-clause-callable c =
    serves_from_places
    (YieldsList-from_zip (YieldsList-from_slice c.measure.result.exponents (search rules)) (YieldsList-from_slice c.measure-2.result.exponents (search rules)))
    (λ x q r. refl)
    (λ x k h e. let small = pair_small _ _ c.measure.ensures c.measure-2.ensures c.requires.0 c.requires.1 k _ h e in λ κs p n l w y z. omega arith)

pub returns : goal.returns
returns c =
    burst-found _ _ c.measure.ensures c.measure-2.ensures c.position.result
    (IsFirst-from_position {s = c.zip.result} c.position.new.self _ c.position.result Over Within c.position.ensures.ran
    (YieldsList-from_zip (YieldsList-from_slice c.measure.result.exponents (search rules)) (YieldsList-from_slice c.measure-2.result.exponents (search rules)))
    (λ x q h. search rules) (λ x q h. search rules))
