use mathlib.Core.Path.{◌∙◌}
use native.Mathlib.Omega.{arith}
use Rattle.code.proofs.Registers.{frame-fits}
use Rattle.burst.proofs.Sending.{ready-next}
use Rattle.burst.proofs.send.ByHistorySender.frame.Goals as goal

pub overflow_cast-result : goal.overflow_cast-result
overflow_cast-result c = record { fits = frame-fits _ _ _ _ _ c.frame.ensures }

pub returns : goal.returns
returns c = λ card input t G hf R. ready-next card G input t (omega arith) (c.from-info.ensures ∙ hf) c.put_history.ensures c.frame.ensures R
