use mathlib.Core.Path.{ap}
use native.Mathlib.Omega.{arith}
use Rattle.code.specs.declared.Sizes.{Sizes}
use Rattle.digit_decoder.proofs.Loops.{decided-fits}
use Rattle.digit_decoder.proofs.HeldReceives.hand_out.Goals as goal

pub overflow_cast-result : goal.overflow_cast-result
overflow_cast-result c =
    let k = ap (λ (z : Sizes). z.k) c.sizes-sizes.ensures in
    record { fits = rw c.decide-frame.ensures (decided-fits _ _ _ _ _ _ _ (omega arith)) }
