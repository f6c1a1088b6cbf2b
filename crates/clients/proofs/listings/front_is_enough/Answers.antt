use borrow.Author.Rules.{rules}
use Rattle.clients.proofs.ListingClauses.{listed-whole}
use Rattle.clients.proofs.listings.front_is_enough.Goals as goal

pub returns : goal.returns
returns c = (listed-whole c.list.ensures (search rules), c.list.ensures.listed.within)
