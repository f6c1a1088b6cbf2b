use Prim.Native.Nat.{ℕ, ◌+◌}
use mathlib.Core.Path.{◌≡◌, ap, ◌∙◌}
use Rattle.outcomes.specs.Text.{text}
use Rattle.outcomes.specs.Listing.{card_line}
use Rattle.outcomes.proofs.Writing.{stored-both, stored-as}
use Rattle.listing.proofs.LineParts.{card-line}
use Rattle.listing.proofs.lines.card_line.Goals as goal

pub returns : goal.returns
unfolding text
returns c =
    let card = c.args.card.now in
    let same : c.from.result ≡ card.number = cc in
    stored-as (card-line _ _ _ _ ∙ ap (λ (number : ℕ). card_line number card.k (card.k + card.p) card.m) same)
    (stored-both (stored-both c.numbered.ensures c.sizes.ensures) c.put.ensures)
