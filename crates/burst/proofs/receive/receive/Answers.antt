use mathlib.Core.Path.{refl, ap, ◌∙◌}
use Rattle.std.specs.Prelude.{Ok, Err}
use Rattle.outcomes.specs.Outcome.{outcome, answer_of, held}
use Rattle.outcomes.specs.Receiving.{receive_under, receive_of}
use Rattle.outcomes.proofs.Outcomes.{by_card, refused-by_card}
use Rattle.outcomes.proofs.Received.{received}
use Rattle.burst.proofs.Refused.{refusal-is}
use Rattle.burst.proofs.receive.receive.Goals as goal

pub returns-in_err-card-clause-output_after : goal.returns-in_err-card-clause-output_after
unfolding receive_of
returns-in_err-card-clause-output_after c =
    let a = c.args in
    let fault = c.in_err-card.field-0.0 in
    ap (λ came. outcome (answer_of (held came)) a.output.now) (refusal-is c.from_residual.result fault.refusal c.from_residual.ensures)
    ∙ refused-by_card a.card.now (Err fault) c.in_err-card.ensures (λ card. receive_under card a.input.now a.output.now) a.output.now refl refl

pub returns : goal.returns
unfolding receive_of
returns c =
    let a = c.args in
    let read = c.in_ok-card in
    let both =
    received a.card.now (Ok read.card) read.ensures a.input.now a.output.now
    (by_card a.card.now (Ok read.card) read.ensures (λ card. receive_under card a.input.now a.output.now) a.output.now refl c.receive_under.ensures)
    in
    record { output_after = both.0; comes_out_as_sent = both.1 }
