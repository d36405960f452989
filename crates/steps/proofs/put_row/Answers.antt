-- `steps::put_row` meets its contract.
use native.Mathlib.Omega.{arith}
use Rattle.steps.proofs.Rows.{row_ready, row_more, row_alone}
use Rattle.steps.proofs.put_row.Goals as goal

pub returns-then-g-eq1 : goal.returns-then-g-eq1
returns-then-g-eq1 c =
    row_alone _ _ c.requires.within.0 c.requires.vacant.0 c.requires.live c.put_term.ensures c.if-g-eq1.true c.requires.vacant.2

pub add-requires : goal.add-requires
add-requires c = let asked = row_ready _ _ c.requires.within.0 c.requires.vacant.0 c.requires.live c.put_term.ensures c.requires.within.1
    c.requires.within.3 (omega arith) c.requires.within.4 c.requires.vacant.1 c.requires.vacant.2 in record {
      within = asked.0;
      vacant = asked.1.0;
      live = asked.1.1;
    }

pub returns : goal.returns
returns c =
    row_more _ _ c.requires.within.0 c.requires.vacant.0 c.requires.live c.put_term.ensures c.add.ensures
