use Rattle.outcomes.proofs.ReadCards.{read-P}
use Rattle.clients.specs.Cards.{fields_p}
use Rattle.clients.proofs.CardClauses.{acceptable-P, accepted-P}
use Rattle.clients.proofs.cards.p_is_accepted.Goals as goal

pub returns : goal.returns
returns c = accepted-P c.read_card.ensures fields_p acceptable-P read-P
