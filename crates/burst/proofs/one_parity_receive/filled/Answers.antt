use Prim.Native.Nat.{ℕ, ◌<◌}
use native.Mathlib.Omega.{arith}
use lib.ListN.{length-take}
use lib.Seq.{get_or-take}
use Rattle.burst.proofs.OneParityReceiving.{in_table, of-zeros, word-waits}
use Rattle.burst.proofs.one_parity_receive.filled.Goals as goal

pub loop-frame-init : goal.loop-frame-init
loop-frame-init c = of-zeros c.args.card.now c.args.input.now

pub taken_in-word-requires : goal.taken_in-word-requires
taken_in-word-requires c =
    let t = c.loop-frame.frame-index in
    let h : t < c.args.card.now.m = omega (arith, length-take {A = ℕ}) in
    rw (get_or-take c.args.card.now.m c.args.input.now t 0 h) (in_table _ _ c.requires.tables.guaranteed.k_most (c.requires.within t (omega arith)))

pub loop-frame-preserved : goal.loop-frame-preserved
loop-frame-preserved c =
    let l = c.loop-frame in
    let h : l.frame-index < c.args.card.now.m = omega (arith, length-take {A = ℕ}) in
    let same = get_or-take c.args.card.now.m c.args.input.now l.frame-index 0 h in
    word-waits _ _ c.requires.tables _ c.requires.within l.frame-index l.word h (omega arith) (rw same at c.taken_in-word.ensures) l.invariant
