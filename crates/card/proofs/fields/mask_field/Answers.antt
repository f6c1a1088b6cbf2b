-- By the tests that led to each answer.
use Prim.Native.Nat.{ℕ}
use mathlib.Core.Path.{◌≡◌, sym, ap, ◌∙◌}
use native.Mathlib.Nat.{add-zero}
use native.Mathlib.Omega.{arith}
use lib.ListN.{get_or}
use borrow.Author.Tests.{eq-eqb, ne_eqb, lt-leb, le-leb}
use Rattle.card.specs.Reading.{word_at, mask_field}
use Rattle.card.proofs.FieldValues.{from-at, ends-inside, ends-beyond}
use Rattle.card.proofs.fields.mask_field.Goals as goal
use Rattle.card.proofs.fields.mask_field.Goals.{After-from_le_bytes-mask, then-mask-eq0-via-then-mask-eq0, then-mask-eq0-via-else-mask-eq0+then-mask-m-gt1}

pub returns-in_default : goal.returns-in_default
unfolding mask_field
returns-in_default c = c.cut_short.ensures ∙ simp (ends-beyond c.args.bytes.now c.args.at c.requires.0 c.in_default.len_below)

mask-is : (c : After-from_le_bytes-mask) → c.from_le_bytes-mask.result ≡ word_at c.args.bytes.now c.args.at
unfolding word_at
mask-is c =
    let bs = c.args.bytes.now in
    let at : ℕ = c.args.at in
    omega (arith, c.from_le_bytes-mask.ensures, from-at bs at 0, from-at bs at 1, from-at bs at 2, from-at bs at 3, ap (λ n. get_or bs n 0) (add-zero at))

pub returns-then-mask-eq0 : goal.returns-then-mask-eq0
unfolding mask_field
returns-then-mask-eq0 c =
    let room = ends-inside c.args.bytes.now c.args.at c.requires.0 c.in-len4-up.len_at_least in
    let word = mask-is (goal.at.returns-then-mask-eq0 c).After-from_le_bytes-mask in
    elim c.then-mask-eq0.branch [
      | then-mask-eq0-via-then-mask-eq0 w ↦ simp (room, eq-eqb _ 0 (sym word ∙ w.if-mask-eq0.true))
      | then-mask-eq0-via-else-mask-eq0+then-mask-m-gt1 w ↦ simp (room, ← word, ne_eqb _ 0 w.if-mask-eq0.false, lt-leb _ _ w.if-mask-m-gt1.true)
    ]

pub returns : goal.returns
unfolding mask_field
returns c =
    let room = ends-inside c.args.bytes.now c.args.at c.requires.0 c.in-len4-up.len_at_least in
    let word = mask-is (goal.at.returns c).After-from_le_bytes-mask in
    simp (room, ← word, ne_eqb _ 0 c.if-mask-eq0.false, le-leb _ _ c.if-mask-m-gt1.false)
