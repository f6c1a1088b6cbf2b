use Rattle.terms.proofs.Opening.{opened}
use Rattle.terms.proofs.receivers.open.Goals as goal

pub returns : goal.returns
returns c =
    let read = c.read_card-read in
    let first = c.open-first in
    let second = c.open-second in
    record {
      first_verdict = first.ensures.verdict_is;
      second_verdict = second.ensures.verdict_is;
      opened = opened _ read.result read.ensures first.result first.ensures second.result second.ensures;
    }
