-- No accepted card is too long.
use native.Mathlib.Omega.{arith}
use Rattle.card.proofs.Acceptance.{accepted-length}
use Rattle.listing.proofs.stored.read.Goals as goal

pub returns-then-bytes-gt-MOST_CARD_BYTES : goal.returns-then-bytes-gt-MOST_CARD_BYTES
returns-then-bytes-gt-MOST_CARD_BYTES c =
    let bytes = c.args.bytes.now in
    (c.if-bytes-gt-MOST_CARD_BYTES.true, λ e. omega (arith, accepted-length c.args.rule bytes (λ i. omega (arith, c.type_inv.bytes i)) e))
