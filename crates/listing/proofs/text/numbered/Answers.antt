use Rattle.outcomes.proofs.Writing.{stored-both}
use Rattle.listing.proofs.text.numbered.Goals as goal

pub returns : goal.returns
returns c = stored-both c.put_all.ensures c.number.ensures
