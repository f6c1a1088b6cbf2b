use Rattle.card.specs.Bench.{checks}
use Rattle.clients.proofs.RewritingClauses.{bytes-T}
use Rattle.clients.proofs.rewritings.t_stays_as_it_is.Goals as goal

pub returns : goal.returns
unfolding checks
returns c = bytes-T c.rewrite.ensures
