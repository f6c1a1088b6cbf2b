use Rattle.outcomes.proofs.Writing.{stored-both}
use Rattle.listing.proofs.lines.sizes.Goals as goal

pub returns : goal.returns
returns c = stored-both (stored-both c.lettered.ensures c.lettered-2.ensures) c.lettered-3.ensures
