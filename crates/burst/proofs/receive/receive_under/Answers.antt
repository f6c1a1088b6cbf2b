-- Each way out of the call by the tests that led to it.
use Prim.Native.Nat.{◌-◌, ◌≤◌, ◌<◌, min}
use mathlib.Core.Path.{◌≡◌, refl, sym, ap, ◌∙◌}
use native.Mathlib.Omega.{arith}
use lib.ListN.{length}
use lib.IntN.{pos}
use Rattle.code.specs.Code.{most_frames}
use Rattle.majority.specs.Plain.{decoded}
use Rattle.majority.proofs.Plain.{decoded-length}
use Rattle.outcomes.proofs.Outcomes.{refused-is, given_is}
use Rattle.outcomes.proofs.Received.{receive-full, receive-short, receive-beyond, receive-given}
use Rattle.burst.proofs.OneParityReceiving.{all-within}
use Rattle.burst.proofs.receive.receive_under.Goals as goal

pub returns-then-input-gt-MOST_FRAMES : goal.returns-then-input-gt-MOST_FRAMES
returns-then-input-gt-MOST_FRAMES c =
    let a = c.args in
    refused-is 15 a.output.now refl ∙ sym (receive-full _ a.input.now a.output.now c.if-input-gt-MOST_FRAMES.true)

pub returns-then-output-count : goal.returns-then-output-count
returns-then-output-count c =
    let a = c.args in
    let short : length a.output.now < length a.input.now - a.card.now.m = omega arith in
    refused-is 13 a.output.now refl ∙ sym (receive-short _ a.input.now a.output.now c.if-input-gt-MOST_FRAMES.false short)

pub returns-then-any_beyond : goal.returns-then-any_beyond
returns-then-any_beyond c =
    let a = c.args in
    let room : length a.input.now - a.card.now.m ≤ length a.output.now = omega arith in
    refused-is 11 a.output.now refl
    ∙ sym (receive-beyond _ a.input.now a.output.now c.if-input-gt-MOST_FRAMES.false room (sym c.any_beyond.ensures ∙ c.if-any_beyond.true))

pub receive_frames-requires-clause-within : goal.receive_frames-requires-clause-within
receive_frames-requires-clause-within c = all-within _ c.args.input.now (sym c.any_beyond.ensures ∙ c.if-any_beyond.false)

pub returns : goal.returns
returns c =
    let a = c.args in
    let card = a.card.now in
    let count = length a.input.now - card.m in
    let room : count ≤ length a.output.now = omega arith in
    let few : min c.saturating_sub-count.result most_frames ≡ count = omega arith in
    given_is count (decoded card a.input.now) a.output.now (decoded-length card a.input.now) (ap pos few) c.receive_frames.ensures
    ∙ sym (receive-given card a.input.now a.output.now c.if-input-gt-MOST_FRAMES.false room (sym c.any_beyond.ensures ∙ c.if-any_beyond.false))
