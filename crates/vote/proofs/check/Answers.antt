use Prim.Native.Nat.{◌+◌, ◌%◌}
use mathlib.Core.Path.{refl, ap, ◌∙◌}
use native.Mathlib.Nat.{le_antisymm}
use native.Mathlib.Omega.{arith}
use lib.ListN.{get_or}
use lib.Count.{ones}
use Rattle.bits.specs.Sums.{sum_below}
use Rattle.bits.specs.Digits.{dot}
use Rattle.bits.proofs.Words.{masked-step}
use Rattle.vote.specs.Voting.{check_by}
use Rattle.vote.proofs.check.Goals as goal

pub loop-j-init : goal.loop-j-init
unfolding sum_below ones
loop-j-init c = refl

pub loop-j-preserved : goal.loop-j-preserved
loop-j-preserved c = masked-step _ _ _ (omega arith) (omega arith) (omega arith) _ c.loop-j.j c.loop-j.invariant refl

pub returns : goal.returns
unfolding check_by
returns c =
    let a = c.args in
    c.loop-j.invariant
    ∙ ap (λ n. sum_below n (λ b. dot (get_or a.checks.now (a.at + b) 0) (get_or a.words.now b 0)) % 2) (le_antisymm c.loop-j.auto.j-end c.loop-j-test.false)
