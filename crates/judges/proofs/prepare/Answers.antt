-- `judges::prepare` meets its contract.
use Rattle.poly.proofs.Maxima.{maxima-fits}
use Rattle.judges.proofs.Judging.{prepared}
use Rattle.judges.proofs.prepare.Goals as goal
use Rattle.judges.proofs.prepare.Goals.{then-test, else-test}

pub largest_word-requires : goal.largest_word-requires
largest_word-requires c = maxima-fits _ _ c.requires.valid.1

pub largest_word-requires-then-test : goal.largest_word-requires-then-test
largest_word-requires-then-test c = maxima-fits _ _ c.requires.valid.0

pub invariant_of-result : goal.invariant_of-result
invariant_of-result c =
    record {
      ready =
          prepared _ _ _ _ _ c.requires.within c.requires.valid c.inverse_mod.ensures c.largest_word.ensures
          (elim c.if-test.branch [
            | then-test w ↦ λ b e. cc (e, w.judge-is, w.largest_word-then-test.ensures)
            | else-test w ↦ λ b e. cc (e, w.judge-is)
          ]);
    }
