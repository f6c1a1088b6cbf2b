use mathlib.Core.Path.{refl, sym, ◌∙◌}
use mathlib.Core.List.{[], ◌∷◌}
use native.Mathlib.Omega.{arith}
use Rattle.sessions.proofs.Receiving.{handed-some, handed-none, rest-turn, rest_end}
use Rattle.sessions.proofs.Running.{partly-as, partly-more, partly-all}
use Rattle.sessions.proofs.receive.receive_frames.Goals as goal
use Rattle.sessions.proofs.receive.receive_frames.Goals.{in-Some, in_default}

pub loop-frame-preserved : goal.loop-frame-preserved
loop-frame-preserved c =
    let l = c.loop-frame in
    let a = c.args in
    let turn = rest-turn a.session.now.card.number a.input.now l.session l.frame-index c.receive_byte.result c.receive_byte.new.self (omega arith) c.receive_byte.ensures in
    elim c.match-unwrap_or.branch [
      | in-Some w ↦
          rw w.frames-is (partly-more l.invariant (w.in-Some.decided ∷ []) _ (turn ∙ rw (handed-some _ _ (sym c.unwrap_or.ensures ∙ w.in-Some.is)) refl) w.put.ensures)
      | in_default w ↦ rw w.frames-is (partly-as l.invariant _ (turn ∙ rw (handed-none _ (sym c.unwrap_or.ensures ∙ w.in_default.is)) refl))
    ]

pub returns : goal.returns
returns c =
    let l = c.loop-frame in
    partly-all l.invariant (rest_end c.args.session.now.card.number c.args.input.now l.session l.frame-index (omega arith))
