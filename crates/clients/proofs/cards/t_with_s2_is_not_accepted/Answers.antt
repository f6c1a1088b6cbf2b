use Rattle.card.specs.Bench.{checks}
use Rattle.clients.proofs.CardClauses.{not-accepted-T}
use Rattle.clients.proofs.cards.t_with_s2_is_not_accepted.Goals as goal

pub returns : goal.returns
unfolding checks
returns c = not-accepted-T _ _ c.read_card.ensures
