use Rattle.card.specs.Bench.{checks}
use Rattle.outcomes.proofs.ReadCards.{read-T}
use Rattle.decoder.proofs.Example.{receives-T}
use Rattle.clients.proofs.ReceiverClauses.{follows}
use Rattle.clients.proofs.calls.t_receives.Goals as goal

pub returns : goal.returns
unfolding checks
returns c = follows read-T c.open.ensures receives-T
