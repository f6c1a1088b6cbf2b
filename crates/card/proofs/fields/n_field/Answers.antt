-- By the tests that led to each answer.
use mathlib.Core.Path.{sym, ap, ◌∙◌}
use Rattle.std.proofs.lemmas.Result.{err_from_is_err_and}
use borrow.Author.Tests.{eq-eqb, ne_eqb, lt-leb, le-leb}
use Rattle.card.specs.Reading.{standing_field, n_field}
use Rattle.card.proofs.FieldValues.{standing-bad}
use Rattle.card.proofs.fields.n_field.Goals as goal

pub returns-in_err-n : goal.returns-in_err-n
unfolding n_field
returns-in_err-n c =
    let p = err_from_is_err_and c.from_residual.result c.from_residual.ensures.1 in
    rw (p.1, p.2, eq-eqb _ _ c.if-stands-eq1.true) (sym (standing-bad _ 2 _ _ _) ∙ ap (standing_field _ _ _) c.in_err-n.ensures)

pub returns-then-stands-eq1 : goal.returns-then-stands-eq1
unfolding n_field
returns-then-stands-eq1 c = rw (eq-eqb _ _ c.if-stands-eq1.true) (c.standing_field.ensures ∙ ap (standing_field _ _ _) c.in_ok-n.ensures)

pub returns-then-k-gt2 : goal.returns-then-k-gt2
unfolding n_field
returns-then-k-gt2 c = simp (ne_eqb _ _ c.if-stands-eq1.false, lt-leb _ _ c.if-k-gt2.true)

pub returns : goal.returns
unfolding n_field
returns c = simp (ne_eqb _ _ c.if-stands-eq1.false, le-leb _ _ c.if-k-gt2.false)
