use mathlib.Core.Path.{refl}
use Rattle.outcomes.proofs.Answers.{answer-is}
use Rattle.terms.proofs.Standards.{standard-card}
use Rattle.terms.proofs.cards.standard.Goals as goal

pub returns : goal.returns
returns c =
    let written = c.standard_card in
    rw (answer-is written.result written.type_inv refl) (standard-card written.ensures.standard_cards _ _ written.ensures.output_after)
