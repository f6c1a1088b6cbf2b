-- Before a frame's call: what the calls so far handed out is stored, and the rest is what the session hands out from here on.
use Rattle.sessions.proofs.Receiving.{rest_of}
use Rattle.sessions.proofs.Running.{Partly}
use Rattle.sessions.proofs.receive.receive_frames.Given as goal

abbrev pub invariant-loop-frame : goal.invariant-loop-frame
invariant-loop-frame l =
    Partly (rest_of l.number l.input l.initial.session 0) (rest_of l.number l.input l.session l.frame-index) l.initial.frames l.frames
