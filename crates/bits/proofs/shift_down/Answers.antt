use mathlib.Core.Path.{sym}
use native.Mathlib.Nat.{div-eq_of_lt, lt_of_lt_of_le}
use lib.Pow.{pow_mono}
use Rattle.bits.proofs.shift_down.Goals as goal

pub returns-else-a-lt32 : goal.returns-else-a-lt32
returns-else-a-lt32 c =
    sym (div-eq_of_lt (lt_of_lt_of_le c.ranges.x.fits (pow_mono {i = 32} {j = c.args.a} c.if-a-lt32.false)))
