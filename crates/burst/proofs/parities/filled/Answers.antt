use Prim.Native.Nat.{◌<◌}
use native.Mathlib.Omega.{arith}
use lib.ListN.{length-take}
use lib.Seq.{get_or-take}
use Prim.Native.Nat.{ℕ}
use Rattle.bits.proofs.Lists.{zeros-at}
use Rattle.burst.proofs.Waiting.{start, none-beyond, wait-more}
use Rattle.burst.proofs.parities.filled.Goals as goal

pub loop-frame-init : goal.loop-frame-init
loop-frame-init c = (start c.args.card.now c.args.input.now, λ j l. zeros-at 8 j)

pub loop-frame-preserved : goal.loop-frame-preserved
loop-frame-preserved c =
    let l = c.loop-frame in
    let T = c.take_in.ensures in
    let h : l.frame-index < c.args.card.now.m = omega (arith, length-take {A = ℕ}) in
    (wait-more _ c.requires.guaranteed _ c.requires.sums_are _ l.frame-index h (get_or-take _ _ l.frame-index 0 h) T l.invariant.0, none-beyond T l.invariant.1)
