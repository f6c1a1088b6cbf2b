use mathlib.Core.Path.{refl}
use native.Mathlib.Omega.{arith}
use Rattle.bits.specs.Sums.{up_to}
use Rattle.bits.specs.Digits.{shift_up}
use Rattle.burst.proofs.TakingIn.{taking-more}
use Rattle.burst.proofs.registers.Registers.take_in.Goals as goal

pub loop-j-init : goal.loop-j-init
unfolding up_to
loop-j-init c = record { coming_is = refl; syndromes_is = refl; none_held = λ _ b l. absurd (omega arith) }

pub loop-j-preserved : goal.loop-j-preserved
unfolding shift_up
loop-j-preserved c = taking-more c.loop-j.invariant (omega arith) (omega arith) c.information-info.ensures.0 c.from.ensures refl
