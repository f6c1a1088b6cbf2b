use Rattle.clients.proofs.SenderClauses.{opened, sends}
use Rattle.clients.proofs.calls.p_sends.Goals as goal

pub returns : goal.returns
returns c = (opened _ c.open.ensures, sends _ c.open.ensures)
