use Rattle.clients.proofs.CardClauses.{refused-stored-P, outside-P}
use Rattle.clients.proofs.cards.stored_p_is_refused.Goals as goal

pub returns : goal.returns
returns c = record { refused_as = refused-stored-P c.read_card.ensures; never_acceptable = outside-P c.read_card.ensures }
