-- Each way out by what the stated length and the count of frames are.
use Prim.Native.Nat.{ℕ, ◌≤◌, ◌<◌}
use mathlib.Core.Path.{sym, ap, ap₂, subst, ◌∙◌}
use mathlib.Core.List.{List}
use native.Mathlib.Omega.{arith}
use lib.ListN.{length, take, drop}
use Rattle.card.specs.Reading.{read_card}
use Rattle.outcomes.specs.Listing.{listing_under}
use Rattle.outcomes.proofs.Listings.{card-too_long, frames-too_long, short-enough, card-bytes, frame-bytes}
use Rattle.listing.proofs.Listed.{take-held, drop-held}
use Rattle.listing.proofs.Writing.{line-as}
use Rattle.listing.proofs.list_input.Goals as goal

pub returns-then-length-gt-MOST_CARD_BYTES : goal.returns-then-length-gt-MOST_CARD_BYTES
returns-then-length-gt-MOST_CARD_BYTES c =
    let input = c.args.input.now in
    let long = subst (λ n. 2048 < n) c.stated_length-length.ensures c.if-length-gt-MOST_CARD_BYTES.true in
    line-as (sym (card-too_long input long)) (omega arith) c.too_long.ensures

pub returns-then-frames-gt-MOST_LISTED : goal.returns-then-frames-gt-MOST_LISTED
returns-then-frames-gt-MOST_LISTED c =
    let input = c.args.input.now in
    let rest = c.split_at.result.1.now in
    let stated = c.stated_length-length in
    let rest-is = c.split_at.ensures.back ∙ ap (λ n. drop n input) c.min.ensures ∙ drop-held input 2 in
    let frames = frame-bytes input rest-is stated.ensures (c.split_at-2.ensures.back ∙ ap (λ n. drop n rest) c.min-2.ensures ∙ drop-held rest stated.result) in
    let long = subst (λ l. 32768 < length l) frames c.if-frames-gt-MOST_LISTED.true in
    line-as (sym (frames-too_long input long)) (omega arith) c.too_long-then-frames-gt-MOST_LISTED.ensures

pub returns : goal.returns
returns c =
    let input = c.args.input.now in
    let rest = c.split_at.result.1.now in
    let stated = c.stated_length-length in
    let rest-is = c.split_at.ensures.back ∙ ap (λ n. drop n input) c.min.ensures ∙ drop-held input 2 in
    let card = card-bytes input rest-is stated.ensures (c.split_at-2.ensures.front ∙ ap (λ n. take n rest) c.min-2.ensures ∙ take-held rest stated.result) in
    let frames = frame-bytes input rest-is stated.ensures (c.split_at-2.ensures.back ∙ ap (λ n. drop n rest) c.min-2.ensures ∙ drop-held rest stated.result) in
    let short = subst (λ n. n ≤ 2048) stated.ensures c.if-length-gt-MOST_CARD_BYTES.false in
    let few = subst (λ l. length l ≤ 32768) frames c.if-frames-gt-MOST_LISTED.false in
    line-as
    (ap₂ (λ (x y : List ℕ). listing_under (read_card x).outcome (read_card x).card y) card frames ∙ sym (short-enough input short few))
    (omega arith) c.list_parts.ensures
