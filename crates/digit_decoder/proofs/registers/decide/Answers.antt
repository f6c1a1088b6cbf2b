use Prim.Native.Nat.{◌+◌, ◌^◌, ◌<◌}
use mathlib.Core.Path.{◌≡◌, refl, ap₂, ◌∙◌}
use native.Mathlib.Nat.{le_antisymm}
use native.Mathlib.Omega.{arith}
use Rattle.bits.specs.Sums.{sum_below}
use Rattle.bits.specs.Digits.{bit, from_digits}
use Rattle.digit_decoder.specs.Held.{decide_digit_by, decide_frame_by}
use Rattle.digit_decoder.proofs.Loops.{frame-more}
use Rattle.digit_decoder.proofs.registers.decide.Goals as goal
use Rattle.digit_decoder.proofs.registers.decide.Goals.{After-shift_up-frame}

pub loop-i-init : goal.loop-i-init
unfolding from_digits sum_below
loop-i-init c = refl

pub others-words-requires : goal.others-words-requires
unfolding bit
others-words-requires c = (omega arith, omega arith)

-- the frame with the stream's digit
frame_is : (c : After-shift_up-frame) →
    let l = c.loop-i in
    let a = c.args in
    let f = l.frame + c.shift_up-frame.result in
    (f < 2 ^ 32)
    × (f ≡ from_digits (l.i + 1) (decide_digit_by a.generators.now a.checks.now a.voters.now a.received.now c.sums-all.result a.p))
frame_is c =
    let l = c.loop-i in
    let a = c.args in
    frame-more a.generators.now a.checks.now a.voters.now a.received.now c.sums-all.result a.p l.i (omega arith) l.invariant
    c.digit-own.ensures c.others-words.ensures refl c.stream_ones-ones.ensures c.digit.ensures c.shift_up-frame.ensures

pub overflow_add-frame : goal.overflow_add-frame
overflow_add-frame c = record { fits = (frame_is (goal.at.overflow_add-frame c).After-shift_up-frame).0 }

pub loop-i-preserved : goal.loop-i-preserved
loop-i-preserved c = (frame_is (goal.at.loop-i-preserved c).After-shift_up-frame).1

pub returns : goal.returns
unfolding decide_frame_by
returns c =
    let a = c.args in
    let l = c.loop-i in
    l.invariant
    ∙ ap₂ (λ n sums. from_digits n (decide_digit_by a.generators.now a.checks.now a.voters.now a.received.now sums a.p))
    (le_antisymm l.auto.i-end c.loop-i-test.false) c.sums-all.ensures
