-- By the test.
use native.Mathlib.Omega.{arith}
use borrow.Author.Tests.{eq-eqb, ne_eqb}
use Rattle.card.specs.Layout.{optional}
use Rattle.card.specs.Written.{stated}
use Rattle.outcomes.proofs.Writing.{stored-nothing}
use Rattle.writer.proofs.parts.field.Goals as goal

pub returns-then-value-default : goal.returns-then-value-default
unfolding stated optional
returns-then-value-default c = rw (ne_eqb _ _ c.if-value-default.true) c.put.ensures

pub returns-else-value-default : goal.returns-else-value-default
unfolding stated optional
returns-else-value-default c = rw (eq-eqb _ _ c.if-value-default.false) (stored-nothing c.args.cursor.now (omega arith))
