-- A mask that is zero has no bytes, and any other four.
use native.Mathlib.Omega.{arith}
use borrow.Author.Tests.{eq-eqb, ne_eqb}
use Rattle.card.specs.Layout.{bytes4, layout_masks}
use Rattle.outcomes.proofs.Writing.{stored-nothing, stored-as}
use Rattle.writer.proofs.masks.mask.Goals as goal

pub returns-then-value-ne0 : goal.returns-then-value-ne0
unfolding layout_masks bytes4
returns-then-value-ne0 c = rw (ne_eqb _ _ c.if-value-ne0.true) (stored-as c.to_le_bytes.ensures c.put_all.ensures)

pub returns-else-value-ne0 : goal.returns-else-value-ne0
unfolding layout_masks
returns-else-value-ne0 c = rw (eq-eqb _ _ c.if-value-ne0.false) (stored-nothing c.args.cursor.now (omega arith))
