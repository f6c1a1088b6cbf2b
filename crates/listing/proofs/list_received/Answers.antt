use Prim.Native.Nat.{ℕ}
use mathlib.Core.Path.{sym, ap, ◌∙◌}
use native.Mathlib.Omega.{arith}
use lib.ListN.{replicate, length-replicate}
use Rattle.card.specs.Reading.{read_card}
use Rattle.code.specs.declared.Card.{Card}
use Rattle.majority.specs.Plain.{decoded}
use Rattle.outcomes.specs.Listing.{listing_of}
use Rattle.listing.proofs.HandedOut.{admitted, handed-few}
use Rattle.listing.proofs.AtFront.{front-within, front_length, front-is}
use Rattle.listing.proofs.Writing.{line-as}
use Rattle.listing.proofs.list_received.Goals as goal

pub receive-count-requires : goal.receive-count-requires
receive-count-requires c =
    admitted c.args.frames.now (replicate 32768 0) c.requires.0 c.requires.1 c.requires.2 (omega (arith, length-replicate {A = ℕ} 32768 0))

pub slice_bounds-buffer-end : goal.slice_bounds-buffer-end
slice_bounds-buffer-end c = front-within c.receive-count.ensures

pub slice_bounds-list_handed_out-end : goal.slice_bounds-list_handed_out-end
slice_bounds-list_handed_out-end c = front_length c.receive-count.ensures

pub list_handed_out-requires : goal.list_handed_out-requires
list_handed_out-requires c =
    let a = c.args in
    (c.requires.0.guaranteed, handed-few (read_card a.bytes.now).card a.frames.now c.receive-count.ensures c.requires.2)

pub returns : goal.returns
returns c =
    let a = c.args in
    line-as (ap (listing_of a.card.now) (front-is c.receive-count.ensures ∙ ap (λ (x : Card). decoded x a.frames.now) (sym c.requires.0.card_is))) (omega arith)
    c.list_handed_out.ensures
