use Prim.Native.Nat.{◌+◌, ◌*◌, ◌%◌, ◌^◌}
use mathlib.Core.Path.{◌≡◌, refl, ap, ◌∙◌}
use native.Mathlib.Omega.{arith}
use lib.ListN.{take}
use lib.Seq.{take_all, length-take-le}
use Rattle.card.specs.Layout.{map_of}
use Rattle.card.proofs.LayoutLaws.{map-lt}
use Rattle.writer.proofs.Laying.{map-within, map_next, stands-is}
use Rattle.writer.proofs.masks.map.Goals as goal
use Rattle.writer.proofs.masks.map.Goals.{After-from}

pub loop-j-init : goal.loop-j-init
unfolding map_of
loop-j-init c = refl

-- one turn puts the mask's digit at its place
turn : (c : After-from) → c.loop-j.map + c.from.result * 2 ^ c.loop-j.j % 4294967296 ≡ map_of (take (c.loop-j.j + 1) c.args.masks.now)
turn c =
    let l = c.loop-j in
    map_next c.args.masks.now l.j (omega arith) (omega arith) l.invariant (c.from.ensures ∙ stands-is _)

pub overflow_add-map : goal.overflow_add-map
overflow_add-map c =
    record { fits = omega (arith, turn (goal.at.overflow_add-map c).After-from, map-within (take (c.loop-j.j + 1) c.args.masks.now) {n = 32} (length-take-le (c.loop-j.j + 1) c.args.masks.now (omega arith)) (omega arith)) }

pub loop-j-preserved : goal.loop-j-preserved
loop-j-preserved c = turn (goal.at.loop-j-preserved c).After-from

pub returns : goal.returns
returns c =
    let masks = c.args.masks.now in
    let e = c.loop-j.invariant ∙ ap map_of (take_all c.loop-j.j masks (omega arith)) in
    (e, omega (arith, map-lt masks))
