use Rattle.majority.proofs.Erased.{erased-rows}
use Rattle.clients.proofs.ErasedClauses.{erased-rows-by-digits}
use Rattle.clients.proofs.edges.erased_digits_leave_the_vote.Goals as goal

pub returns : goal.returns
returns c = (erased-rows, erased-rows-by-digits)
