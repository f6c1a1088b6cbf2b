use Rattle.encoder.specs.Calls.{call_of}
use Rattle.sessions.proofs.Sending.{information-at, tail-after}
use Rattle.sessions.proofs.send.call.Goals as goal

pub returns-then-t-input : goal.returns-then-t-input
unfolding call_of
returns-then-t-input c = rw (information-at c.args.input.now c.args.t c.if-t-input.true) c.send.ensures

pub returns-else-t-input : goal.returns-else-t-input
unfolding call_of
returns-else-t-input c = rw (tail-after c.args.input.now c.args.t c.if-t-input.false) c.send_tail.ensures
