use Prim.Native.Nat.{min}
use mathlib.Core.Path.{sym, ap, ◌∙◌}
use Rattle.std.specs.Prelude.{Ok}
use native.Mathlib.Omega.{arith}
use lib.ListN.{length-take}
use Rattle.std.proofs.lemmas.Result.{err_from_is_err_and}
use Rattle.bits.proofs.Words.{placed-fits}
use Rattle.receiving.specs.Readings.{yield_of, digit_of}
use Rattle.receiving.proofs.Yields.{read-refused}
use Rattle.receiving.proofs.Read.{read_none, digit_lt, read-digit, read-erased, looked-at, read_all}
use Rattle.receiving.proofs.read_frame.Goals as goal
use Rattle.receiving.proofs.read_frame.Goals.{in-Some, in-None}

pub loop-s-init : goal.loop-s-init
loop-s-init c = read_none _

pub returns-in_err-digit : goal.returns-in_err-digit
returns-in_err-digit c =
    let a = c.args in
    let s = c.loop-s.s in
    let long = length-take c.min.result a.readings in
    let p = err_from_is_err_and c.from_residual.result c.from_residual.ensures.1 in
    let y = ap digit_of (sym (looked-at a.readings c.min.result s _ c.loop-s-test.true)) ∙ sym c.in_err-digit.ensures in
    rw (p.1, p.2) (sym (read-refused a.readings (min a.n 8) s _ (omega arith) y))

pub overflow_add-digits : goal.overflow_add-digits
overflow_add-digits c =
    let a = c.args in
    let l = c.loop-s in
    let long = length-take c.min.result a.readings in
    let y = ap digit_of (sym (looked-at a.readings c.min.result l.s _ c.loop-s-test.true)) ∙ sym c.in_ok-digit.ensures ∙ ap (λ o. yield_of (Ok o)) c.in-Some.is in
    let d = digit_lt a.readings l.s l.digits l.erased l.invariant (omega arith) c.in-Some.digit y in
    record { fits = omega (arith, c.shift_up-digits.ensures, placed-fits l.digits c.in-Some.digit l.s l.invariant.frame-lt d (omega arith)) }

pub overflow_add-erased : goal.overflow_add-erased
overflow_add-erased c =
    let l = c.loop-s in
    let long = length-take c.min.result c.args.readings in
    record { fits = omega (arith, c.shift_up-erased.ensures, placed-fits l.erased 1 l.s l.invariant.marks-lt (omega arith) (omega arith)) }

pub loop-s-preserved : goal.loop-s-preserved
loop-s-preserved c =
    let a = c.args in
    let l = c.loop-s in
    let long = length-take c.min.result a.readings in
    let y = ap digit_of (sym (looked-at a.readings c.min.result l.s _ c.loop-s-test.true)) ∙ sym c.in_ok-digit.ensures in
    elim c.match-branch-2.branch [
      | in-Some w ↦
          rw (w.digits-is, w.erased-is, w.shift_up-digits.ensures)
          (read-digit a.readings l.s l.digits l.erased l.invariant (omega arith) w.in-Some.digit (y ∙ ap (λ o. yield_of (Ok o)) w.in-Some.is))
      | in-None w ↦
          rw (w.digits-is, w.erased-is, w.shift_up-erased.ensures)
          (read-erased a.readings l.s l.digits l.erased l.invariant (omega arith) (y ∙ ap (λ o. yield_of (Ok o)) w.in-None.is))
    ]

pub returns : goal.returns
returns c =
    let l = c.loop-s in
    let long = length-take c.min.result c.args.readings in
    read_all c.args.readings _ l.s l.digits l.erased (omega arith) (omega arith) l.invariant
