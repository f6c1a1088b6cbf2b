use mathlib.Core.Path.{refl, ◌∙◌}
use native.Mathlib.Omega.{arith}
use lib.ListN.{replicate}
use Rattle.bits.specs.Sums.{up_to}
use Rattle.bits.proofs.Lists.{part_step, part_end}
use Rattle.digit_decoder.specs.Held.{sum_by, sums_by}
use Rattle.digit_decoder.proofs.registers.sums.Goals as goal

pub loop-j-init : goal.loop-j-init
unfolding up_to
loop-j-init c = refl

pub loop-j-preserved : goal.loop-j-preserved
loop-j-preserved c = part_step _ (replicate 8 0) _ _ _ (omega arith) c.loop-j.invariant c.sum.ensures

pub returns : goal.returns
unfolding sums_by
returns c =
    let a = c.args in
    c.loop-j.invariant
    ∙ part_end (sum_by a.generators.now a.received.now a.decided.now a.k) (replicate 8 0) c.loop-j.auto.j-end c.loop-j-test.false
