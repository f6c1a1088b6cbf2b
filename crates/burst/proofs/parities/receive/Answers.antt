use Prim.Native.Nat.{◌-◌}
use mathlib.Core.Path.{◌≡◌}
use lib.ListN.{length}
use native.Mathlib.Omega.{arith}
use Rattle.burst.proofs.Waiting.{none-beyond}
use Rattle.burst.proofs.HandingOut.{none_written, after_none, hand-turn, hand-none, all-handed}
use Rattle.burst.proofs.parities.receive.Goals as goal

pub loop-u-init : goal.loop-u-init
loop-u-init c = (hand-none _ _ _ c.filled-registers.ensures.ready, c.filled-registers.ensures.none_beyond)

pub correct-errors-requires-clause-none_held : goal.correct-errors-requires-clause-none_held
correct-errors-requires-clause-none_held c = none_written c.take_in-held.ensures

pub correct-errors-requires-clause-none_beyond : goal.correct-errors-requires-clause-none_beyond
correct-errors-requires-clause-none_beyond c = none-beyond c.take_in-held.ensures c.loop-u.invariant.1

pub loop-u-preserved : goal.loop-u-preserved
loop-u-preserved c =
    let a = c.args in
    let l = c.loop-u in
    let T = c.take_in-held.ensures in
    let C = c.correct-errors.ensures in (
      hand-turn a.card.now c.requires.guaranteed _ c.generator_sums-sums.ensures a.input.now l.u _ a.output.now (omega arith) (omega arith) T C
          c.corrected.ensures l.invariant.0,
      after_none C (none-beyond T l.invariant.1),
    )

pub returns : goal.returns
returns c =
    let l = c.loop-u in
    let e : l.u ≡ length c.args.input.now - c.args.card.now.m = omega arith in
    all-handed _ _ _ (rw e at l.invariant.0.handed)
