use mathlib.Core.Path.{refl, ◌∙◌}
use mathlib.Core.List.{[], ◌∷◌}
use native.Mathlib.Omega.{arith}
use Rattle.encoder.specs.Calls.{given_by}
use Rattle.sessions.proofs.Running.{partly-as, partly-more, partly-all}
use Rattle.sessions.proofs.Sending.{rest-turn, rest_end}
use Rattle.sessions.proofs.send.send_frames.Goals as goal
use Rattle.sessions.proofs.send.send_frames.Goals.{in-Ok, in_default}

pub loop-t-preserved : goal.loop-t-preserved
unfolding given_by
loop-t-preserved c =
    let l = c.loop-t in
    let a = c.args in
    let turn = rest-turn a.input.now a.session.now.card.m l.session l.t c.call.result c.call.new.session (omega arith) c.call.ensures in
    elim c.match-call.branch [
      | in-Ok w ↦ rw w.frames-is (partly-more l.invariant (w.in-Ok.frame ∷ []) _ (turn ∙ rw w.in-Ok.is refl) w.put.ensures)
      | in_default w ↦ rw w.frames-is (partly-as l.invariant _ (turn ∙ rw w.in_default.is refl))
    ]

pub returns : goal.returns
returns c =
    let l = c.loop-t in
    let a = c.args in
    partly-all l.invariant (rest_end a.input.now a.session.now.card.m l.session l.t (omega arith))
