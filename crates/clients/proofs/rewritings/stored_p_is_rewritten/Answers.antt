use Rattle.listing.proofs.AtFront.{rest_kept}
use Rattle.clients.proofs.RewritingClauses.{bytes-P, value-P}
use Rattle.clients.proofs.rewritings.stored_p_is_rewritten.Goals as goal

pub returns : goal.returns
returns c =
    let promise = c.rewrite.ensures in
    record { bytes_are = (bytes-P promise, rest_kept promise.wrote); read_as_p = value-P promise }
