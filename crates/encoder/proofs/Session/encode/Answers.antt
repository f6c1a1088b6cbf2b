use Rattle.code.proofs.Registers.{frame-fits}
use Rattle.encoder.specs.Sending.{history_next, frame_next, encoded_of}
use Rattle.encoder.proofs.Session.encode.Goals as goal

pub overflow_cast-result : goal.overflow_cast-result
overflow_cast-result c = record { fits = frame-fits _ _ _ _ _ c.frame.ensures }

pub returns : goal.returns
unfolding encoded_of history_next frame_next
returns c = rw (c.frame.ensures, c.put_history.ensures, c.from-info.ensures)
