use mathlib.Core.Path.{refl, ap, ◌∙◌}
use Rattle.std.specs.Prelude.{Ok, Err}
use Rattle.outcomes.specs.Outcome.{outcome, answer_of, held}
use Rattle.outcomes.specs.Sending.{send_under, send_of}
use Rattle.outcomes.proofs.Outcomes.{by_card, refused-by_card}
use Rattle.burst.proofs.Refused.{refusal-is}
use Rattle.burst.proofs.send.send.Goals as goal

pub returns-in_err-card : goal.returns-in_err-card
unfolding send_of
returns-in_err-card c =
    let a = c.args in
    let fault = c.in_err-card.field-0.0 in
    ap (λ came. outcome (answer_of (held came)) a.output.now) (refusal-is c.from_residual.result fault.refusal c.from_residual.ensures)
    ∙ refused-by_card a.card.now (Err fault) c.in_err-card.ensures (λ card. send_under card a.input.now a.output.now) a.output.now refl refl

pub returns : goal.returns
unfolding send_of
returns c =
    let a = c.args in
    by_card a.card.now (Ok c.in_ok-card.card) c.in_ok-card.ensures (λ card. send_under card a.input.now a.output.now) a.output.now refl c.send_under.ensures
