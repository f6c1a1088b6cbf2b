use Prim.Native.Nat.{◌≤◌, ℕ}
use mathlib.Core.Path.{◌≡◌, refl, sym, ap, ◌∙◌}
use native.Mathlib.Omega.{arith}
use lib.ListN.{length}
use Rattle.std.specs.Prelude.{Ok, Err}
use Rattle.code.specs.Code.{most_frames}
use Rattle.card.specs.Layout.{longest_card}
use Rattle.card.specs.Written.{written}
use Rattle.outcomes.specs.Outcome.{outcome, answer_of, held}
use Rattle.outcomes.proofs.Answers.{held-is}
use Rattle.outcomes.proofs.Outcomes.{count_is, by_card, refused-by_card}
use Rattle.writer.specs.Outcome.{write_under, write_of}
use Rattle.writer.proofs.Carrying.{accepted-length}
use Rattle.burst.proofs.Refused.{refusal-is}
use Rattle.burst.proofs.write.write.Goals as goal

pub returns-in_err-card : goal.returns-in_err-card
unfolding write_of
returns-in_err-card c =
    let a = c.args in
    let fault = c.in_err-card.field-0.0 in
    ap (λ came. outcome (answer_of (held came)) a.output.now) (refusal-is c.from_residual.result fault.refusal c.from_residual.ensures)
    ∙ refused-by_card a.card.now (Err fault) c.in_err-card.ensures (λ card. write_under card a.output.now) a.output.now refl refl

pub returns : goal.returns
unfolding write_of write_under
returns c =
    let a = c.args in
    let read = c.in_ok-card in
    let wrote = c.write_card in
    let after = wrote.new.output in
    let most : length (written read.card) ≤ longest_card = accepted-length read.ensures refl in
    let few : (count : ℕ) → wrote.result ≡ Ok count → count ≤ most_frames = λ count e.
    omega (arith, most, count_is (written read.card) a.output.now (ap (λ came. outcome (answer_of came) after) (sym e) ∙ wrote.ensures.output_after)) in
    ap (λ came. outcome (answer_of came) after) (held-is wrote.result few)
    ∙ by_card a.card.now (Ok read.card) read.ensures (λ card. write_under card a.output.now) a.output.now refl wrote.ensures.output_after
