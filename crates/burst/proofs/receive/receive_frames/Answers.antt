use Rattle.burst.proofs.HandingOut.{none-handed}
use Rattle.burst.proofs.receive.receive_frames.Goals as goal

pub returns-then-input-card : goal.returns-then-input-card
returns-then-input-card c = none-handed _ c.args.input.now c.args.output.now c.if-input-card.true
