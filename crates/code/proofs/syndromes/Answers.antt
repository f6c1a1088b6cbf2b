use Rattle.code.specs.Registers.{syndromes_by}
use Rattle.code.proofs.syndromes.Goals as goal

pub returns : goal.returns
unfolding syndromes_by
returns c = rw (c.frame.ensures, c.min.ensures)
