-- By the rule and the test.
use borrow.Author.Tests.{eq-eqb, ne_eqb}
use Rattle.card.specs.Reading.{standing_field}
use Rattle.card.proofs.fields.standing_field.Goals as goal

pub returns-in-Former : goal.returns-in-Former
unfolding standing_field
returns-in-Former c = rw c.in-Former.is

pub returns-in-Present : goal.returns-in-Present
unfolding standing_field
returns-in-Present c = rw (c.in-Present.is, eq-eqb _ _ c.if-v-default.true)

pub returns-in-Present-2 : goal.returns-in-Present-2
unfolding standing_field
returns-in-Present-2 c = rw (c.in-Present-2.is, ne_eqb _ _ c.if-v-default.false)
