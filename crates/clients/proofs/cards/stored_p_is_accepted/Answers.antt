use Rattle.clients.specs.Cards.{stored_fields_p}
use Rattle.clients.proofs.CardClauses.{acceptable-stored-P, accepted-stored-P}
use Rattle.clients.proofs.cards.stored_p_is_accepted.Goals as goal

pub returns : goal.returns
returns c =
    let promise = c.read_card.ensures in
    (accepted-stored-P promise, promise.guaranteed (promise.all_these stored_fields_p acceptable-stored-P))
