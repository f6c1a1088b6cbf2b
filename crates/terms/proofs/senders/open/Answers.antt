use Rattle.terms.proofs.Sending.{sends}
use Rattle.terms.proofs.senders.open.Goals as goal

pub returns : goal.returns
returns c = record { verdict = c.open-sender.ensures.verdict_is; sends = sends _ _ c.read_card-read.ensures _ c.open-sender.ensures }
