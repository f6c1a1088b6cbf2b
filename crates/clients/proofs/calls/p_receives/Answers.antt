use Rattle.outcomes.proofs.ReadCards.{read-P}
use Rattle.decoder.proofs.Example.{receives-P, receives-faint-P}
use Rattle.clients.proofs.ReceiverClauses.{opened, follows}
use Rattle.clients.proofs.calls.p_receives.Goals as goal

pub returns : goal.returns
returns c = (opened read-P c.open.ensures, follows read-P c.open.ensures receives-P, follows read-P c.open.ensures receives-faint-P)
