use mathlib.Core.Path.{ap}
use mathlib.Core.List.{List}
use lib.Ieee.{of_bits}
use lib.ListN.{get_or}
use Rattle.receiving.specs.Answers.{Given, waiting}
use Rattle.outcomes.proofs.ReadCards.{read-P}
use Rattle.digit_decoder.specs.Receive.{second_circuit}
use Rattle.digit_decoder.proofs.Example.{answers-as-P}
use Rattle.clients.proofs.ReceiverClauses.{follows, waits, hands-out}
use Rattle.clients.proofs.calls.p_answers_by_digits.Goals as goal

pub returns-in_err-receive_byte : goal.returns-in_err-receive_byte
returns-in_err-receive_byte c =
    let given = follows read-P c.open.ensures answers-as-P in
    absurd (cc (waits second_circuit _ c.receive_byte.result c.receive_byte.ensures (ap (λ (l : List Given). get_or l 0 waiting) given), c.in_err-receive_byte.was))

pub returns : goal.returns
unfolding of_bits
returns c =
    let given = follows read-P c.open.ensures answers-as-P in
    hands-out second_circuit _ c.receive_byte.result c.receive_byte.ensures c.receive_readings.result c.receive_readings.ensures
    (ap (λ (l : List Given). get_or l 1 waiting) given)
