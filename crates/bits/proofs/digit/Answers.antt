use Rattle.bits.specs.Digits.{bit}
use Rattle.bits.proofs.digit.Goals as goal

pub returns : goal.returns
unfolding bit
returns c = rw c.shift_down.ensures
