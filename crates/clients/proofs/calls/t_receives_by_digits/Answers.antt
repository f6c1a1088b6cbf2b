use Rattle.card.specs.Bench.{checks}
use Rattle.outcomes.proofs.ReadCards.{read-T}
use Rattle.digit_decoder.proofs.Example.{receives-T}
use Rattle.clients.proofs.ReceiverClauses.{follows}
use Rattle.clients.proofs.calls.t_receives_by_digits.Goals as goal

pub returns : goal.returns
unfolding checks
returns c = follows read-T c.open.ensures receives-T
