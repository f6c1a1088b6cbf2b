-- By the tests that led to each answer.
use Prim.Native.Nat.{ℕ, ◌+◌, ◌*◌, ◌/◌, ◌^◌}
use mathlib.Core.Path.{◌≡◌, ap, ◌∙◌}
use native.Mathlib.Nat.{add-zero}
use native.Mathlib.Omega.{arith}
use lib.ListN.{get_or}
use borrow.Author.Tests.{eq-eqb, ne_eqb}
use Rattle.card.specs.Reading.{map_field}
use Rattle.card.proofs.FieldValues.{from-at, ends-inside, ends-beyond}
use Rattle.card.proofs.fields.map_field.Goals as goal
use Rattle.card.proofs.fields.map_field.Goals.{After-from-map}

pub returns-in_default : goal.returns-in_default
unfolding map_field
returns-in_default c = c.cut_short.ensures ∙ simp (ends-beyond c.args.bytes.now c.args.at c.requires.0 c.in_default.len_below)

map-is : (c : After-from-map) → c.from-map.result ≡ get_or c.args.bytes.now c.args.at 0 + get_or c.args.bytes.now (c.args.at + 1) 0 * 256
map-is c =
    let bs = c.args.bytes.now in
    let at : ℕ = c.args.at in
    omega (arith, c.from-map.ensures, c.from_le_bytes.ensures, from-at bs at 0, from-at bs at 1, ap (λ n. get_or bs n 0) (add-zero at))

pub returns-then-map-count-gt0 : goal.returns-then-map-count-gt0
unfolding map_field
returns-then-map-count-gt0 c =
    let room = ends-inside c.args.bytes.now c.args.at c.requires.0 c.in-len2-up.len_at_least in
    let map = map-is (goal.at.returns-then-map-count-gt0 c).After-from-map in
    simp (room, ← map, ne_eqb (c.from-map.result / 2 ^ c.args.count) 0 (λ z. absurd (omega arith)))

pub returns : goal.returns
unfolding map_field
returns c =
    let room = ends-inside c.args.bytes.now c.args.at c.requires.0 c.in-len2-up.len_at_least in
    let map = map-is (goal.at.returns c).After-from-map in
    simp (room, ← map, eq-eqb (c.from-map.result / 2 ^ c.args.count) 0 (omega arith))
