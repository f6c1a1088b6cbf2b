-- Before turn t: what the calls so far handed out is stored, and the rest is what the session hands out from here on.
use Rattle.sessions.proofs.Running.{Partly}
use Rattle.sessions.proofs.Sending.{rest_of}
use Rattle.sessions.proofs.send.send_frames.Given as goal

abbrev pub invariant-loop-t : goal.invariant-loop-t
invariant-loop-t l =
    Partly (rest_of l.input l.initial.session.card.m l.initial.session 0) (rest_of l.input l.initial.session.card.m l.session l.t) l.initial.frames l.frames
