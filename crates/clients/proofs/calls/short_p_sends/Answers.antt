use Rattle.clients.proofs.SenderClauses.{sends-nothing}
use Rattle.clients.proofs.calls.short_p_sends.Goals as goal

pub returns : goal.returns
returns c = sends-nothing _ c.open.ensures
