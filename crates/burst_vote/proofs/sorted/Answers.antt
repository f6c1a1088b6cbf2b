use mathlib.Core.Path.{refl, ◌∙◌}
use native.Mathlib.Omega.{arith}
use lib.ListN.{length-set}
use Rattle.burst_vote.proofs.Sorting.{no_stream, stream-more}
use Rattle.burst_vote.proofs.sorted.Goals as goal

pub loop-i-init : goal.loop-i-init
loop-i-init c = (refl, refl, refl, no_stream _ _ _ _ _)

pub loop-i-preserved : goal.loop-i-preserved
loop-i-preserved c =
    let l = c.loop-i in
    let v = l.invariant in
    let T = c.sorted_stream-stream.ensures in (
      length-set l.alone l.i _ ∙ v.0,
      T.room,
      length-set l.left l.i _ ∙ v.2,
      stream-more (omega arith) v.0 v.2 v.3 (rw c.count_of.ensures at T),
    )

pub returns : goal.returns
returns c = record { same = λ i word h. c.loop-i.invariant.3.same i word (omega arith) }
