-- By the test.
use borrow.Author.Tests.{eq-eqb, ne_eqb}
use Rattle.card.specs.Reading.{standing_mask}
use Rattle.card.proofs.fields.standing_mask.Goals as goal

pub returns-then-stands-eq1 : goal.returns-then-stands-eq1
unfolding standing_mask
returns-then-stands-eq1 c = rw (eq-eqb _ _ c.if-stands-eq1.true) c.mask_field.ensures

pub returns-else-stands-eq1 : goal.returns-else-stands-eq1
unfolding standing_mask
returns-else-stands-eq1 c = simp (ne_eqb _ _ c.if-stands-eq1.false)
