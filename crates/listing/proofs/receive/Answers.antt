use mathlib.Core.Path.{◌≡◌, sym, ap, subst}
use native.Mathlib.Omega.{arith}
use lib.ListN.{length}
use lib.IntN.{ℤ, pos, nat_abs}
use lib.Signed.{non_neg}
use lib.Dec.{T}
use mir.Syntax.{w32, w64}
use mir.Val.{Fits, to_z, of_z}
use Rattle.card.specs.Reading.{read_card}
use Rattle.majority.specs.Plain.{decoded}
use Rattle.outcomes.proofs.Answers.{answer-is}
use Rattle.listing.proofs.HandedOut.{count_most, answer-count, hands_out}
use Rattle.listing.proofs.receive.Goals as goal

pub overflow_cast-result : goal.overflow_cast-result
overflow_cast-result c =
    let a = c.args in
    let burst = c.burst_receive in
    let d = decoded (read_card a.card.now).card a.frames.now in
    let count = answer-count a.card.now a.frames.now a.buffer.now c.requires burst.ensures.output_after in
    let most = count_most a.card.now a.frames.now a.buffer.now c.requires in
    let e : to_z w32 (of_z w32 burst.result) ≡ pos (length d) = answer-is burst.result burst.type_inv count in
    subst (λ (z : ℤ). T (non_neg z) × Fits w64 (nat_abs z)) (sym e) (tt, record { fits = omega (arith, most) })

pub returns : goal.returns
returns c =
    let a = c.args in
    let burst = c.burst_receive in
    let count = answer-count a.card.now a.frames.now a.buffer.now c.requires burst.ensures.output_after in
    hands_out a.card.now a.frames.now a.buffer.now c.requires burst.ensures.output_after (ap nat_abs (answer-is burst.result burst.type_inv count))
