use mathlib.Core.Path.{◌≡◌, subst, ◌∙◌}
use borrow.Author.Rules.{rules}
use Rattle.code.specs.Bench.{P}
use Rattle.writer.specs.Claims.{WrittenForm}
use Rattle.clients.proofs.CardClauses.{accepted-stored-P}
use Rattle.clients.proofs.WriterClauses.{written-as-P, form-of-P}
use Rattle.clients.proofs.written.p_is_written.Goals as goal

pub returns-in_err-card : goal.returns-in_err-card
returns-in_err-card c = absurd (cc (accepted-stored-P c.read_card.ensures, c.in_err-card.was))

pub returns : goal.returns
returns c =
    let is : c.in_ok-card.card ≡ P = cc (accepted-stored-P c.read_card.ensures, c.in_ok-card.was) in
    let written = c.write_card.ensures in
    record { bytes_are = rw is at written.output_after ∙ written-as-P _ (search rules); form_of_p = form-of-P (subst WrittenForm is written.written_form) }
