use mathlib.Core.Path.{refl}
use Rattle.burst.proofs.OneParitySending as one_parity
use Rattle.burst.proofs.Sending as by_history
use Rattle.burst.proofs.send.send_frames.Goals as goal

pub returns-then-card-eq1 : goal.returns-then-card-eq1
returns-then-card-eq1 c =
    let card = c.args.card.now in
    c.send_all.ensures card c.requires.guaranteed refl
    (one_parity.ready-first card c.args.input.now _ card.k c.if-card-eq1.true refl c.stream_sums-sums.ensures)

pub returns-else-card-eq1 : goal.returns-else-card-eq1
returns-else-card-eq1 c =
    let card = c.args.card.now in
    c.send_all-else-card-eq1.ensures card c.requires.guaranteed refl (by_history.ready-first card c.args.input.now)
