use mathlib.Core.Path.{◌∙◌}
use Rattle.outcomes.proofs.Example.{example}
use Rattle.listing.proofs.AtFront.{front-is, rest_kept}
use Rattle.clients.proofs.listings.p_is_listed.Goals as goal

pub returns : goal.returns
returns c = (front-is c.list.ensures.listed ∙ example, rest_kept c.list.ensures.listed)
