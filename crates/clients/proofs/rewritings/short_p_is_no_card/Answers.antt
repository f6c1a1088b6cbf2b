use Rattle.clients.proofs.RewritingClauses.{line-short-P, no-card-short-P}
use Rattle.clients.proofs.rewritings.short_p_is_no_card.Goals as goal

pub returns : goal.returns
returns c = record { line_is = line-short-P c.rewrite.ensures; no_card = no-card-short-P c.rewrite.ensures }
