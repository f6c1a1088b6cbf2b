use Rattle.encoder.proofs.Opening.{opened-accepted, opened-refused}
use Rattle.encoder.proofs.open.Goals as goal

pub returns-in-Ok : goal.returns-in-Ok
returns-in-Ok c = opened-accepted _ _ c.in-Ok.ensures c.unsent.ensures

pub returns-in-Err : goal.returns-in-Err
returns-in-Err c = opened-refused _ _ c.in-Err.ensures c.closed.ensures
