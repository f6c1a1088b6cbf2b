use native.Mathlib.Omega.{arith}
use Rattle.code.specs.Registers.{shift_in}
use Rattle.code.proofs.shifted_in.Goals as goal

pub returns : goal.returns
unfolding shift_in
returns c = omega arith
