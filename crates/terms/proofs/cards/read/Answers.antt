use Rattle.terms.proofs.GoodCards.{card-read}
use Rattle.terms.proofs.cards.read.Goals as goal

pub returns : goal.returns
returns c = card-read c.args.rule c.read_card.ensures
