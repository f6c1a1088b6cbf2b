use native.Mathlib.Omega.{arith}
use mathlib.Core.Path.{refl}
use Rattle.burst.proofs.Sending.{sent-more}
use Rattle.bits.specs.Sums.{up_to}
use Rattle.burst.proofs.sender.send_information.Goals as goal

pub loop-at-init : goal.loop-at-init
unfolding up_to
loop-at-init g c = λ card G R. (R, refl)

pub loop-at-preserved : goal.loop-at-preserved
loop-at-preserved g c = λ card G R.
    let l = c.loop-at in
    let S = l.invariant card G R in
    let next = c.frame.ensures card c.args.input.now l.at G refl S.0 in
    (next.1, sent-more card c.args.input.now c.args.output.now l.at c.frame.result (omega arith) next.0 S.1)
