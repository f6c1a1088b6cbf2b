-- Each record takes some of the input.
use lib.ListN.{length}
use Rattle.trace.proofs.sessions.all.Given as goal

abbrev pub decreases-loop-rest : goal.decreases-loop-rest
decreases-loop-rest g l = length l.rest
