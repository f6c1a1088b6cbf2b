-- By the test.
use mathlib.Core.Path.{sym, ap, ◌∙◌}
use Rattle.std.proofs.lemmas.Result.{err_from_is_err_and}
use borrow.Author.Tests.{eq-eqb, ne_eqb}
use Rattle.card.specs.Reading.{standing_field, k_field}
use Rattle.card.proofs.FieldValues.{standing-bad}
use Rattle.card.proofs.fields.k_field.Goals as goal

pub returns-in_err-k : goal.returns-in_err-k
unfolding k_field
returns-in_err-k c =
    let p = err_from_is_err_and c.from_residual.result c.from_residual.ensures.1 in
    rw (p.1, p.2, eq-eqb _ _ c.if-stands-eq1.true) (sym (standing-bad _ 1 2 _ _) ∙ ap (standing_field _ _ _) c.in_err-k.ensures)

pub returns-then-stands-eq1 : goal.returns-then-stands-eq1
unfolding k_field
returns-then-stands-eq1 c = rw (eq-eqb _ _ c.if-stands-eq1.true) (c.standing_field.ensures ∙ ap (standing_field _ _ _) c.in_ok-k.ensures)

pub returns : goal.returns
unfolding k_field
returns c = simp (ne_eqb _ _ c.if-stands-eq1.false)
