use mathlib.Core.Path.{refl, sym, ap, ◌∙◌}
use mathlib.Core.List.{◌++◌}
use native.Mathlib.Omega.{arith}
use lib.ListN.{drop, replicate}
use Rattle.bits.specs.Sums.{up_to}
use Rattle.bits.proofs.Lists.{part_step, part_end}
use Rattle.code.specs.Registers.{generator_sum, feedback_by}
use Rattle.code.proofs.GeneratorSums.{feedback-none}
use Rattle.code.proofs.feedback.Goals as goal

pub returns-then-errors-eq0 : goal.returns-then-errors-eq0
returns-then-errors-eq0 c =
    let a = c.args in
    feedback-none a.generators.now a.k a.p ∙ ap (feedback_by a.generators.now a.k a.p) (sym c.if-errors-eq0.true)

pub loop-j-init : goal.loop-j-init
unfolding up_to
loop-j-init c = refl

pub loop-j-preserved : goal.loop-j-preserved
loop-j-preserved c = part_step _ (replicate 8 0) _ _ _ (omega arith) c.loop-j.invariant c.generator_sum.ensures

pub returns : goal.returns
unfolding feedback_by
returns c =
    let a = c.args in
    let f = generator_sum a.generators.now a.k a.errors in
    c.loop-j.invariant
    ∙ part_end f (replicate 8 0) c.loop-j.auto.j-end c.loop-j-test.false
    ∙ ap (λ n. up_to n f ++ drop n (replicate 8 0)) c.min-j-end.ensures
