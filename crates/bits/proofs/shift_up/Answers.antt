use mathlib.Core.Path.{refl, sym}
use Rattle.bits.specs.Digits.{shift_up}
use Rattle.bits.proofs.Words.{shift-out}
use Rattle.bits.proofs.shift_up.Goals as goal

pub returns-then-a-lt32 : goal.returns-then-a-lt32
unfolding shift_up
returns-then-a-lt32 c = refl

pub returns-else-a-lt32 : goal.returns-else-a-lt32
returns-else-a-lt32 c = sym (shift-out _ _ c.if-a-lt32.false)
