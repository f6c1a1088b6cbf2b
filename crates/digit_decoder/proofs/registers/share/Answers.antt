use mathlib.Core.Path.{refl}
use native.Mathlib.Omega.{arith}
use Rattle.bits.specs.Sums.{xor_below}
use Rattle.bits.proofs.Digits.{bit-lt}
use Rattle.digit_decoder.proofs.Loops.{share-lt, share-more, share-end}
use Rattle.digit_decoder.proofs.registers.share.Goals as goal

pub loop-l-init : goal.loop-l-init
unfolding xor_below
loop-l-init c = refl

pub overflow_mul-sum : goal.overflow_mul-sum
overflow_mul-sum c =
    record { fits = share-lt c.shift_up.result c.shift_down.result c.digit.result (omega arith) (omega arith) (omega (arith, bit-lt c.args.generator c.loop-l.l)) }

pub loop-l-preserved : goal.loop-l-preserved
loop-l-preserved c =
    let a = c.args in
    share-more a.generator a.received a.decided c.loop-l.l c.loop-l.invariant c.digit.ensures c.shift_up.ensures c.shift_down.ensures

pub returns : goal.returns
returns c =
    let a = c.args in
    share-end a.generator a.received a.decided c.loop-l.l (omega arith) (omega arith) c.loop-l.invariant
