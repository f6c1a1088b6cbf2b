use Prim.Native.Nat.{◌+◌}
use mathlib.Core.Path.{sym, ap, ◌∙◌}
use native.Mathlib.Omega.{arith}
use Rattle.outcomes.specs.Listing.{refused_line}
use Rattle.outcomes.proofs.Listings.{beyond-streams, within_streams}
use Rattle.listing.proofs.FirstBeyond.{beyond-at, beyond-nowhere}
use Rattle.listing.proofs.Writing.{line-as}
use Rattle.listing.proofs.list_frames.Goals as goal

pub returns-in-Some : goal.returns-in-Some
returns-in-Some c =
    let a = c.args in
    let first = beyond-at (a.card.now.k + a.card.now.p) a.frames.now c.in-Some.time (sym c.in-Some.ensures) in
    line-as (ap (λ n. refused_line 11 n) first.0 ∙ sym (beyond-streams a.card.now a.frames.now first.1)) (omega arith) c.refused.ensures

pub list_received-requires : goal.list_received-requires
list_received-requires c =
    let a = c.args in
    (c.requires.0, beyond-nowhere (a.card.now.k + a.card.now.p) a.frames.now (sym c.in-None.ensures), c.requires.1)

pub returns-in-None : goal.returns-in-None
returns-in-None c =
    let a = c.args in
    line-as (sym (within_streams a.card.now a.frames.now (beyond-nowhere (a.card.now.k + a.card.now.p) a.frames.now (sym c.in-None.ensures)))) (omega arith)
    c.list_received.ensures
