use mathlib.Core.Path.{sym, ap, ◌∙◌}
use native.Mathlib.Omega.{arith}
use Rattle.std.proofs.lemmas.Result.{err_from_is_err_and}
use Rattle.receiving.specs.Readings.{frame_yield_of}
use Rattle.receiving.specs.Receive.{with_frame, handing_of}
use Rattle.receiving.proofs.Outcomes.{room_for, call-refused, call-waits, call-hands}
use Rattle.receiving.proofs.Session.receive.Goals as goal

pub returns-in_err-frame : goal.returns-in_err-frame
returns-in_err-frame g c =
    let p = err_from_is_err_and c.from_residual.result c.from_residual.ensures.1 in
    let e = c.in_err-frame.ensures in
    rw (p.1, p.2) (call-refused g.H.Receives.holding c.args.self.now c.args.number _ _ e)

pub overflow_add-self : goal.overflow_add-self
overflow_add-self g c =
    let room = room_for _ _ _ _ (sym c.admit.ensures ∙ ap frame_yield_of c.in_ok-frame.was) in record { fits = omega arith }

pub returns-then-received-self : goal.returns-then-received-self
unfolding with_frame
returns-then-received-self g c =
    let admitted = sym (ap frame_yield_of c.in_ok-frame.was) ∙ c.admit.ensures in
    let waits = call-waits g.H.Receives.holding c.args.self.now _ _ _ _ admitted (omega arith) in
    cc (waits, c.put_in.ensures, c.min-place.ensures)

pub returns : goal.returns
unfolding with_frame handing_of
returns g c =
    let admitted = sym (ap frame_yield_of c.in_ok-frame.was) ∙ c.admit.ensures in
    let hands = call-hands g.H.Receives.holding c.args.self.now _ _ _ _ admitted (omega arith) in
    cc (hands, c.put_in.ensures, c.min-place.ensures, c.hand_out.ensures.handed_out, c.hand_out.ensures.moved_on)
