use mathlib.Core.Path.{refl}
use Rattle.outcomes.proofs.Answers.{answer-is}
use Rattle.terms.proofs.BurstReceiving.{burst-received}
use Rattle.terms.proofs.bursts.receive.Goals as goal

pub returns : goal.returns
returns c =
    let read = c.read_card-read in
    let burst = c.burst_receive-answer in
    rw (answer-is burst.result burst.type_inv refl)
    (burst-received _ _ _ _ _ read.result read.ensures burst.ensures.output_after burst.ensures.comes_out_as_sent)
