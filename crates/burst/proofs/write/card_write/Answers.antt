use mathlib.Core.Path.{ap, ◌∙◌}
use lib.IntN.{ℤ}
use Rattle.outcomes.specs.Outcome.{outcome}
use Rattle.outcomes.proofs.Answers.{answer-is}
use Rattle.writer.proofs.Carrying.{wrote-card}
use Rattle.burst.proofs.write.card_write.Goals as goal

pub returns-clause-carries_on : goal.returns-clause-carries_on
returns-clause-carries_on c =
    (wrote-card _ _ (ap (λ (z : ℤ). outcome z c.write.new.output) (answer-is c.of.result c.of.type_inv c.of.ensures) ∙ c.write.ensures)).1
