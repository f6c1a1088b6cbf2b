use Prim.Native.Nat.{ℕ}
use native.Mathlib.Nat.{le_antisymm}
use mathlib.Core.Path.{refl, ap, ◌∙◌}
use native.Mathlib.Omega.{arith}
use Rattle.bits.specs.Sums.{up_to}
use Rattle.code.specs.declared.Sizes.{Sizes}
use Rattle.card.specs.Layout.{layout_streams}
use Rattle.card.specs.Written.{p_of, streams_of, fields_of}
use Rattle.outcomes.proofs.Writing.{stored-nothing, stored-both, stored-as}
use Rattle.writer.proofs.Laying.{streams-next}
use Rattle.writer.proofs.parts.streams.Goals as goal

pub loop-i-init : goal.loop-i-init
unfolding up_to streams_of layout_streams
loop-i-init c = stored-nothing c.args.cursor.now (omega arith)

pub loop-i-preserved : goal.loop-i-preserved
loop-i-preserved c =
    let card = c.args.card.now in
    stored-as (streams-next card.counts card.checks (p_of card) c.loop-i.i refl) (stored-both c.loop-i.invariant c.stream.ensures)

pub returns : goal.returns
unfolding fields_of
returns c =
    let card = c.args.card.now in
    let all = le_antisymm c.loop-i.auto.i-end c.loop-i-test.false ∙ ap (λ (s : Sizes). s.k) c.sizes-i-end.ensures in
    stored-as (ap (λ (n : ℕ). layout_streams (streams_of card.counts card.checks n (p_of card))) all) c.loop-i.invariant
