use mathlib.Core.Path.{refl}
use native.Mathlib.Omega.{arith}
use Rattle.outcomes.proofs.Answers.{answer-is}
use Rattle.terms.proofs.Written.{card-written}
use Rattle.terms.proofs.cards.write.Goals as goal

pub returns : goal.returns
returns c =
    let written = c.card_write in
    rw (answer-is written.result written.type_inv refl)
    (card-written c.args.card.now _ (λ i. omega (arith, c.type_inv.card i)) written.ensures.output_after written.ensures.carries_on)
