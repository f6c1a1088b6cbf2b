use native.Mathlib.Nat.{le_antisymm}
use native.Mathlib.Omega.{arith}
use Rattle.burst_vote.proofs.Sorting.{none-sorted, joined, listed}
use Rattle.burst_vote.proofs.sorted_stream.Goals as goal
use Rattle.burst_vote.proofs.sorted_stream.Goals.{then-joins, else-joins}

pub loop-q-init : goal.loop-q-init
loop-q-init c = none-sorted _ _ _ c.requires.2

pub loop-q-preserved : goal.loop-q-preserved
loop-q-preserved c =
    let l = c.loop-q in
    elim c.if-joins.branch [
      | then-joins w ↦ rw (w.several-is, w.alone-is, w.left-is) (joined l.invariant (c.joins.ensures w.if-joins.true))
      | else-joins w ↦ rw (w.several-is, w.alone-is, w.left-is) (listed l.invariant (omega arith) (omega arith))
    ]

pub returns : goal.returns
returns c = rw (le_antisymm c.loop-q.auto.q-end c.loop-q-test.false) at c.loop-q.invariant
