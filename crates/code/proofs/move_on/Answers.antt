use Prim.Native.Nat.{ℕ, ◌/◌}
use mathlib.Core.Path.{refl, ap}
use native.Mathlib.Omega.{arith}
use Rattle.bits.specs.Sums.{up_to}
use Rattle.bits.proofs.Lists.{part_step, part-next, part-all}
use Rattle.code.specs.Registers.{moved_on}
use Rattle.code.proofs.move_on.Goals as goal

pub loop-register-init : goal.loop-register-init
unfolding up_to
loop-register-init c = refl

pub loop-register-preserved : goal.loop-register-preserved
loop-register-preserved c =
    let l = c.loop-register in
    part_step _ _ _ _ _ (omega arith) l.invariant (ap (λ (x : ℕ). x / 2) (part-next _ _ _ l.invariant))

pub returns : goal.returns
unfolding moved_on
returns c = part-all _ _ c.loop-register.invariant (omega arith) (omega arith)
