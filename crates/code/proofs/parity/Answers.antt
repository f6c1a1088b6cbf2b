use Prim.Native.Nat.{ℕ, ◌%◌}
use mathlib.Core.Path.{refl, ap, ap₂, ◌∙◌}
use native.Mathlib.Nat.{le_antisymm}
use native.Mathlib.Omega.{arith}
use lib.ListN.{get_or}
use lib.Count.{ones}
use Rattle.bits.specs.Sums.{sum_below}
use Rattle.bits.specs.Digits.{dot}
use Rattle.bits.proofs.Words.{masked-step}
use Rattle.code.specs.Registers.{generator_mask, parity_by}
use Rattle.code.proofs.parity.Goals as goal

pub loop-i-init : goal.loop-i-init
unfolding sum_below ones
loop-i-init c = refl

pub loop-i-preserved : goal.loop-i-preserved
loop-i-preserved c =
    masked-step c.loop-i.sum c.generator.result c.word.result (omega arith) (omega arith) (omega arith) _ c.loop-i.i c.loop-i.invariant
    (ap₂ dot c.generator.ensures c.word.ensures)

pub returns : goal.returns
unfolding parity_by
returns c =
    let a = c.args in
    c.loop-i.invariant
    ∙ ap (λ (n : ℕ). sum_below n (λ b. dot (generator_mask a.generators.now b a.j) (get_or a.registers.now b 0)) % 2)
    (le_antisymm c.loop-i.auto.i-end c.loop-i-test.false ∙ c.min-i-end.ensures)
