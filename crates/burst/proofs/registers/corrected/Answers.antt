use Rattle.burst.specs.Registers.{corrected_by}
use Rattle.burst.proofs.registers.corrected.Goals as goal

pub returns : goal.returns
unfolding corrected_by
returns c = rw c.information.ensures.0
