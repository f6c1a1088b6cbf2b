use Prim.Native.Nat.{◌+◌, ◌^◌, ◌<◌}
use mathlib.Core.Path.{◌≡◌, refl, ap, ◌∙◌}
use native.Mathlib.Omega.{arith}
use Rattle.bits.specs.Sums.{sum_below}
use Rattle.bits.specs.Digits.{from_digits, shift_up}
use Rattle.burst_vote.specs.Sorted.{decide_sorted}
use Rattle.burst_vote.proofs.Sorting.{error_sorted, error-sorted, error-more}
use Rattle.burst_vote.proofs.SortedChecks.decide_streams.Goals as goal
use Rattle.burst_vote.proofs.SortedChecks.decide_streams.Goals.{After-from}

pub loop-i-init : goal.loop-i-init
unfolding sum_below from_digits
loop-i-init c = refl

-- the errors with the stream's
errors_are : (c : After-from) →
    let l = c.loop-i in
    let a = c.args in
    let e = l.errors + shift_up c.from.result l.i in
    (e < 2 ^ 32) × (e ≡ from_digits (l.i + 1) (error_sorted a.counts.now a.self.now.alone a.self.now.several a.self.now.left a.word))
errors_are c =
    let l = c.loop-i in
    let a = c.args in
    error-more a.counts.now a.self.now.alone a.self.now.several a.self.now.left a.word l.i (omega arith) l.invariant
    (error-sorted a.counts.now a.self.now.alone a.self.now.several a.self.now.left a.word l.i c.count_of.ensures c.votes.ensures c.more_than_half.ensures c.from.ensures)

pub overflow_add-errors : goal.overflow_add-errors
unfolding shift_up
overflow_add-errors c = record { fits = (errors_are (goal.at.overflow_add-errors c).After-from).0 }

pub loop-i-preserved : goal.loop-i-preserved
unfolding shift_up
loop-i-preserved c = (errors_are (goal.at.loop-i-preserved c).After-from).1

pub returns : goal.returns
unfolding decide_sorted
returns c =
    let a = c.args in
    c.loop-i.invariant
    ∙ ap (λ n. from_digits n (error_sorted a.counts.now a.self.now.alone a.self.now.several a.self.now.left a.word))
    (omega (arith, c.min-i-end.ensures, c.loop-i.auto.i-end, c.loop-i-test.false))
