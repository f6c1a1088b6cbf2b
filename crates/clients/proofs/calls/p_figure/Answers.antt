use mathlib.Core.Path.{ap, ◌∙◌}
use lib.Ieee.{of_bits}
use Rattle.outcomes.proofs.ReadCards.{read-P}
use Rattle.decoder.specs.Receive.{first_circuit, link_figure_of}
use Rattle.decoder.proofs.Example.{figure-P}
use Rattle.clients.proofs.ReceiverClauses.{follows, after-both}
use Rattle.clients.proofs.calls.p_figure.Goals as goal

pub returns : goal.returns
unfolding of_bits
returns c =
    c.link_figure.ensures
    ∙ ap link_figure_of (after-both first_circuit _ c.receive_byte.result c.receive_byte.ensures c.receive_readings.result c.receive_readings.ensures)
    ∙ follows read-P c.open.ensures figure-P
