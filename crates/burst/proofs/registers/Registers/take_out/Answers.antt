use mathlib.Core.Path.{refl}
use native.Mathlib.Omega.{arith}
use Rattle.bits.specs.Sums.{up_to}
use Rattle.bits.proofs.Lists.{part_step, part-next}
use Rattle.burst.specs.Registers.{taken_out}
use Rattle.burst.proofs.registers.Registers.take_out.Goals as goal

pub loop-j-init : goal.loop-j-init
unfolding up_to
loop-j-init c = (refl, refl)

pub loop-j-preserved : goal.loop-j-preserved
unfolding taken_out
loop-j-preserved c =
    let l = c.loop-j in
    let before = c.args.self.now.syndromes in
    let f = taken_out c.args.sums.now before c.args.errors in
    let now = part-next f before l.j l.invariant.1 in
    (l.invariant.0, part_step f before l.j l.self.syndromes _ (omega arith) l.invariant.1 (rw now refl))
