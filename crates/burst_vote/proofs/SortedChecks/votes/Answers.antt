use Prim.Native.Nat.{◌+◌, ◌%◌}
use mathlib.Core.Path.{ap, ◌∙◌}
use native.Mathlib.Nat.{le_antisymm}
use native.Mathlib.Omega.{arith}
use lib.ListN.{get_or}
use Rattle.bits.specs.Sums.{sum_below}
use Rattle.bits.specs.Digits.{dot}
use Rattle.bits.proofs.Sums.{sum_more}
use Rattle.burst_vote.specs.Sorted.{several_start, parities, votes_sorted}
use Rattle.burst_vote.proofs.Sorting.{dot-le-32}
use Rattle.burst_vote.proofs.SortedChecks.votes.Goals as goal

pub loop-r-init : goal.loop-r-init
unfolding parities sum_below
loop-r-init c = (omega (arith, c.ones_in-ones.ensures, dot-le-32 (get_or c.args.self.now.alone c.args.i 0) c.args.word), omega (arith, c.ones_in-ones.ensures))

pub loop-r-preserved : goal.loop-r-preserved
unfolding parities
loop-r-preserved c =
    let a = c.args in
    let l = c.loop-r in
    let m = sum_more l.r (λ r. dot (get_or a.self.now.several (several_start a.i + r) 0) a.word % 2) in
    let n = c.parity-ones.ensures in
    (omega arith, omega arith)

pub returns : goal.returns
unfolding votes_sorted
returns c =
    let a = c.args in
    c.loop-r.invariant.1
    ∙ ap (λ n. dot (get_or a.self.now.alone a.i 0) a.word + parities a.self.now.several (several_start a.i) n a.word)
    (le_antisymm c.loop-r.auto.r-end c.loop-r-test.false ∙ c.min-r-end.ensures)
