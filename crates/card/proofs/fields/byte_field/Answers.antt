-- By the tests that led to each answer.
use mathlib.Core.Path.{◌≡◌, sym, ◌∙◌}
use mathlib.Core.Bool.{true}
use lib.ListN.{length, get_or}
use lib.Dec.{ltb}
use Rattle.std.proofs.lemmas.Grind.{get_or_default_zero}
use borrow.Author.Tests.{lt-leb, le-leb, ltb-true}
use Rattle.card.specs.Reading.{byte_field}
use Rattle.card.proofs.fields.byte_field.Goals as goal
use Rattle.card.proofs.fields.byte_field.Goals.{After-from-v, then-v-low-via-then-v-low, then-v-low-via-else-v-low+then-high-v}

pub returns-in_default : goal.returns-in_default
unfolding byte_field
returns-in_default c = c.cut_short.ensures ∙ simp (← c.in_default.ensures.lookup.0)

-- there is a byte, and v is that byte
inside : (c : After-from-v) → ltb c.args.at (length c.args.bytes.now) ≡ true
inside c = sym c.in-Some.ensures.lookup.0

byte : (c : After-from-v) → get_or c.args.bytes.now c.args.at 0 ≡ c.from-v.result
byte c = sym (c.from-v.ensures ∙ c.in-Some.ensures.lookup.1 ∙ get_or_default_zero c.args.bytes.now c.args.at _ (ltb-true _ _ (inside c)))

pub returns-then-v-low : goal.returns-then-v-low
unfolding byte_field
returns-then-v-low c =
    let read = (goal.at.returns-then-v-low c).After-from-v in
    elim c.then-v-low.branch [
      | then-v-low-via-then-v-low w ↦ simp (inside read, byte read, lt-leb _ _ w.if-v-low.true)
      | then-v-low-via-else-v-low+then-high-v w ↦ simp (inside read, byte read, le-leb _ _ w.if-v-low.false, lt-leb _ _ w.if-high-v.true)
    ]

pub returns : goal.returns
unfolding byte_field
returns c =
    let read = (goal.at.returns c).After-from-v in
    simp (inside read, byte read, le-leb _ _ c.if-v-low.false, le-leb _ _ c.if-high-v.false)
