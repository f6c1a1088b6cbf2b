use Prim.Native.Nat.{ℕ, ◌-◌, ◌^◌, min}
use mathlib.Core.Path.{refl, ap, ◌∙◌}
use mathlib.Core.List.{◌++◌}
use native.Mathlib.Omega.{arith}
use lib.ListN.{get_or, drop, replicate}
use Rattle.std.proofs.lemmas.Nat.{one_shl}
use Rattle.bits.specs.Sums.{up_to}
use Rattle.bits.proofs.Lists.{part_step, part_end}
use Rattle.code.specs.Limits.{most_checks}
use Rattle.vote.specs.Voters.{all_voting}
use Rattle.vote.proofs.voters.all_checks.Goals as goal

pub loop-i-init : goal.loop-i-init
unfolding up_to
loop-i-init c = refl

pub loop-i-preserved : goal.loop-i-preserved
loop-i-preserved c = part_step _ (replicate 4 0) _ _ _ (omega arith) c.loop-i.invariant (ap (λ (x : ℕ). x - 1) (one_shl c.count_of.result 32 (omega arith)) ∙ ap (λ (n : ℕ). 2 ^ n - 1) c.count_of.ensures)

pub returns : goal.returns
unfolding all_voting
returns c =
    let a = c.args in
    let f : ℕ → ℕ = λ b. 2 ^ min (get_or a.counts.now b 0) most_checks - 1 in
    c.loop-i.invariant
    ∙ part_end f (replicate 4 0) c.loop-i.auto.i-end c.loop-i-test.false
    ∙ ap (λ n. up_to n f ++ drop n (replicate 4 0)) c.min-i-end.ensures
