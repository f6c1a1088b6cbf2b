use Prim.Native.Nat.{ℕ}
use mathlib.Core.List.{[], ◌∷◌}
use native.Mathlib.Nat.{le_antisymm}
use mathlib.Core.Path.{◌≡◌, ap, ◌∙◌}
use native.Mathlib.Omega.{arith}
use Rattle.bits.specs.Sums.{up_to}
use Rattle.code.specs.declared.Sizes.{Sizes}
use Rattle.card.specs.Layout.{layout_checks, layout_streams}
use Rattle.card.specs.Written.{p_of, checks_of, stream_of}
use Rattle.outcomes.proofs.Writing.{stored-still, stored-both, stored-as}
use Rattle.writer.proofs.Laying.{part-is, checks-next, stream-parts}
use Rattle.writer.proofs.parts.stream.Goals as goal

pub loop-q-init : goal.loop-q-init
unfolding up_to checks_of layout_checks
loop-q-init c = stored-still c.put.ensures

pub loop-q-preserved : goal.loop-q-preserved
loop-q-preserved c =
    let card = c.args.card.now in
    let l = c.loop-q in
    let p : c.sizes-p.result.p ≡ p_of card = ap (λ (s : Sizes). s.p) c.sizes-p.ensures in
    stored-as (checks-next card.checks c.args.i (p_of card) l.q)
    (stored-both l.invariant (stored-as (ap (λ v. layout_checks (v ∷ [])) (part-is card.checks _ p (omega arith))) c.check.ensures))

pub returns : goal.returns
returns c =
    let checks = c.args.card.now.checks in
    let i = c.args.i in
    let p = p_of c.args.card.now in
    let all = le_antisymm c.loop-q.auto.q-end c.loop-q-test.false in
    stored-as
    (stream-parts checks i c.min-count.result p ∙ ap (λ n. layout_streams (stream_of checks i n p ∷ [])) c.min-count.ensures)
    (stored-both c.put.ensures (stored-as (ap (λ (n : ℕ). layout_checks (checks_of checks i n p)) all) c.loop-q.invariant))
