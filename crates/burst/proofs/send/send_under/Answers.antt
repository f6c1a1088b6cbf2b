-- Each way out of the call by the tests that led to it.
use Prim.Native.Nat.{◌+◌, min}
use mathlib.Core.Path.{◌≡◌, refl, sym, ap, ◌∙◌}
use native.Mathlib.Omega.{arith}
use lib.ListN.{length}
use lib.IntN.{pos}
use Rattle.code.specs.Code.{most_frames, sent}
use Rattle.code.proofs.Sent.{sent-length}
use Rattle.outcomes.proofs.Outcomes.{refused-is, given_is, under-full, under-short, under-beyond, under-sent}
use Rattle.burst.proofs.send.send_under.Goals as goal

pub returns-then-count-gt-MOST_FRAMES : goal.returns-then-count-gt-MOST_FRAMES
returns-then-count-gt-MOST_FRAMES c =
    let a = c.args in
    refused-is 15 a.output.now refl ∙ sym (under-full _ a.input.now a.output.now c.if-count-gt-MOST_FRAMES.true)

pub returns-then-output-count : goal.returns-then-output-count
returns-then-output-count c =
    let a = c.args in
    refused-is 13 a.output.now refl ∙ sym (under-short _ a.input.now a.output.now c.if-count-gt-MOST_FRAMES.false c.if-output-count.true)

pub returns-then-any_beyond : goal.returns-then-any_beyond
returns-then-any_beyond c =
    let a = c.args in
    refused-is 11 a.output.now refl
    ∙ sym (under-beyond _ a.input.now a.output.now c.if-count-gt-MOST_FRAMES.false c.if-output-count.false (sym c.any_beyond.ensures ∙ c.if-any_beyond.true))

pub returns : goal.returns
returns c =
    let a = c.args in
    let card = a.card.now in
    let count = length a.input.now + card.m in
    let few : min count most_frames ≡ count = omega arith in
    given_is count (sent card a.input.now) a.output.now (sent-length card a.input.now) (ap pos few) c.send_frames.ensures
    ∙ sym (under-sent card a.input.now a.output.now c.if-count-gt-MOST_FRAMES.false c.if-output-count.false (sym c.any_beyond.ensures ∙ c.if-any_beyond.false))
