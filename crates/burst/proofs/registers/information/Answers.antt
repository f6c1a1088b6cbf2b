use mathlib.Core.Path.{refl}
use native.Mathlib.Nat.{mod-lt, lt_of_lt_of_le}
use lib.Pow.{pow_pos, pow_mono}
use Rattle.burst.proofs.Summing.{size_is}
use Rattle.burst.proofs.registers.information.Goals as goal

pub returns : goal.returns
returns c =
    let k = c.args.k in
    rw (size_is k c.requires, c.from.ensures) (refl, lt_of_lt_of_le (mod-lt c.args.frame (pow_pos k)) (pow_mono {i = k} {j = 4} c.requires))
