-- `tree::take` meets its contract.
use Prim.Native.Nat.{◌*◌, ◌^◌, ◌<◌}
use native.Mathlib.Omega.{arith}
use Rattle.moduli.proofs.Bounds.{product_small}
use Rattle.poly.specs.Words.{records, coef_at}
use Rattle.tree.specs.Tree.{row_of, column_of, awaited}
use Rattle.tree.proofs.Taking.{Hand, taking_hand, taken, length-weigh, take-starts, take-steps, take-ends}
use Rattle.tree.proofs.take.Goals as goal
use Rattle.tree.proofs.take.Goals.{In-loop-node}

-- the record that the loop's test found
in-hand : (c : In-loop-node) → Hand c.args.rows.now c.args.cols.now c.loop-node.work c.args.k c.loop-node.node.tag
in-hand c = taking_hand _ _ _ _ _ _ _ _ c.requires.within.2 c.loop-node.invariant c.loop-node-test.true

-- the product of its two numbers
small : (c : In-loop-node) → let s = c.args in let tag = c.loop-node.node.tag in
    coef_at s.rows.now (row_of tag) * coef_at s.cols.now (column_of tag) < 2 ^ 62
small c =
    let S = c.requires.sides in
    let h = in-hand c in
    product_small _ _ (omega (arith, S.rows_coefs _ h.row)) (omega (arith, S.cols_coefs _ h.column))

pub loop-node-init : goal.loop-node-init
loop-node-init c = take-starts _ _ _ _ _ _ c.requires.within.0 c.requires.within.3 c.requires.live c.at-node.ensures

pub bounds-rows-row : goal.bounds-rows-row
bounds-rows-row c = omega (arith, (in-hand (goal.at.bounds-rows-row c).In-loop-node).row)

pub bounds-cols-column : goal.bounds-cols-column
bounds-cols-column c = omega (arith, (in-hand (goal.at.bounds-cols-column c).In-loop-node).column)

pub overflow_mul-sum-in-loop-node-2 : goal.overflow_mul-sum-in-loop-node-2
overflow_mul-sum-in-loop-node-2 c =
    rw (c.row-row.ensures, c.column.ensures) (omega (arith, small (goal.at.overflow_mul-sum-in-loop-node-2 c).In-loop-node))

pub overflow_add-sum-in-loop-node-2 : goal.overflow_add-sum-in-loop-node-2
overflow_add-sum-in-loop-node-2 c =
    rw (c.row-row.ensures, c.column.ensures)
    (omega (arith, small (goal.at.overflow_add-sum-in-loop-node-2 c).In-loop-node, c.loop-node.invariant.small, c.requires.within.1))

pub bounds-rows-row-in-loop-node : goal.bounds-rows-row-in-loop-node
bounds-rows-row-in-loop-node c = omega (arith, (in-hand (goal.at.bounds-rows-row-in-loop-node c).In-loop-node).row)

pub after-next-requires : goal.after-next-requires
after-next-requires c =
    let S = c.requires.sides in
    let h = in-hand (goal.at.after-next-requires c).In-loop-node in
    (rw c.row-row.ensures (S.rows_words _ h.row), h.column, omega (arith, h.row, S.few.0), S.cols_words)

pub climb-at-requires : goal.climb-at-requires
climb-at-requires c =
    let h = in-hand (goal.at.climb-at-requires c).In-loop-node in record {
      within = (omega arith, omega (arith, h.row), c.loop-node.invariant.long, omega arith);
      settled = rw c.row-row.ensures h.settled;
    }

pub loop-node-smaller : goal.loop-node-smaller
loop-node-smaller c =
    let s = c.args in
    let e = c.row-row.ensures in
    let gone =
    taken s.rows.now s.cols.now _ c.requires.sides _ _ _ _ _ c.requires.within.2 (in-hand (goal.at.loop-node-smaller c).In-loop-node) _
    (rw e at c.after-next.ensures) (rw e at c.climb-at.ensures)
    (λ u. 1) in
    omega (
      arith,
      gone,
      length-weigh (awaited s.rows.now s.cols.now c.loop-node.work 0 (records s.rows.now)),
      length-weigh (awaited s.rows.now s.cols.now c.climb-at.new.work 0 (records s.rows.now)),
    )

pub loop-node-preserved : goal.loop-node-preserved
loop-node-preserved c =
    let e = c.row-row.ensures in
    rw (e, c.column.ensures)
    (take-steps _ _ _ _ _ _ _ _ _ _ _ _ c.requires.within.0 c.requires.within.2 c.requires.sides c.loop-node.invariant c.loop-node-test.true
    (rw e at c.after-next.ensures) (rw e at c.climb-at.ensures) c.at-node-in-loop-node.ensures)

pub returns : goal.returns
returns c = take-ends _ _ _ _ _ _ _ _ c.requires.within.3 c.loop-node.invariant c.loop-node-test.false
