-- Each way out by what the reading of the stored card came to.
use mathlib.Core.Path.{refl, ap, ◌∙◌}
use native.Mathlib.Omega.{arith}
use Rattle.card.specs.Outcome.{CardOutcome}
use Rattle.writer.proofs.Carrying.{read_as, accepted-length}
use Rattle.listing.specs.Rewriting.{rewritten_under}
use Rattle.listing.proofs.Rewritten.{short, refused-is, rewrites-line, rewrites-card}
use Rattle.listing.proofs.rewriting.rewrite.Goals as goal

pub write_anew-requires : goal.write_anew-requires
write_anew-requires c = accepted-length c.in-Ok.ensures.1 refl

pub returns-in-Ok : goal.returns-in-Ok
unfolding rewritten_under
returns-in-Ok c =
    let a = c.args in
    let read = c.in-Ok.ensures in
    rewrites-card a.input.now a.output.now (λ i. omega (arith, c.type_inv.input i)) c.in-Ok.card
    (short _ read.0 ∙ ap (λ (r : CardOutcome). rewritten_under r.outcome r.card) (read_as read.1 refl))
    (accepted-length read.1 refl) c.write_anew.ensures

pub returns-in-Err : goal.returns-in-Err
returns-in-Err c =
    let a = c.args in
    rewrites-line a.input.now a.output.now (λ i. omega (arith, c.type_inv.input i)) (refused-is a.input.now c.in-Err.why c.in-Err.ensures) c.refuse.ensures
