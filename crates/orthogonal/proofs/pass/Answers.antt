use Prim.Native.Nat.{◌%◌}
use mathlib.Core.Path.{sym, ap, ◌∙◌}
use native.Mathlib.Omega.{arith}
use Rattle.orthogonal.proofs.Passing.{worked-first, worked-next, own-untouched, touched-before, stands}
use Rattle.orthogonal.proofs.pass.Goals as goal

pub loop-s-init : goal.loop-s-init
loop-s-init c = worked-first _ _ _ _ _ _

pub loop-s-preserved : goal.loop-s-preserved
loop-s-preserved c =
    worked-next _ _ _ _ _ _ c.loop-s.invariant c.touched-touches.result c.clash-again.result (omega arith) (omega (arith, c.min-streams.ensures, c.min.ensures))
    c.touched-touches.ensures (omega arith) c.clash-again.ensures

pub returns-then-own-eq0 : goal.returns-then-own-eq0
returns-then-own-eq0 c =
    own-untouched _ _ _ _ _ _ c.loop-s.invariant (omega (arith, c.min-streams.ensures, c.min.ensures, c.loop-s-test.false))
    (ap (λ x. x % 2) (sym c.word-own.ensures) ∙ c.if-own-eq0.true)

pub returns-then-again-gt0 : goal.returns-then-again-gt0
returns-then-again-gt0 c =
    touched-before _ _ _ _ _ _ c.loop-s.invariant (omega (arith, c.min-streams.ensures, c.min.ensures, c.loop-s-test.false))
    (λ z. c.if-own-eq0.false (ap (λ x. x % 2) c.word-own.ensures ∙ z)) c.if-again-gt0.true

pub returns : goal.returns
returns c =
    stands _ _ _ _ _ _ c.loop-s.invariant (omega (arith, c.min-streams.ensures, c.min.ensures, c.loop-s-test.false))
    (λ z. c.if-own-eq0.false (ap (λ x. x % 2) c.word-own.ensures ∙ z)) c.if-again-gt0.false
    (omega (arith, c.min-streams.ensures, c.min.ensures)) c.add_errors.ensures
