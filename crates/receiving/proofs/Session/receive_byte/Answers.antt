use mathlib.Core.Path.{ap, ◌∙◌}
use Rattle.code.specs.declared.Sizes.{Sizes}
use Rattle.receiving.specs.Readings.{read_byte_of}
use Rattle.receiving.specs.Receive.{circuit_of}
use Rattle.receiving.proofs.Outcomes.{byte-is}
use Rattle.receiving.proofs.Session.receive_byte.Goals as goal

pub returns : goal.returns
returns g c =
    byte-is (circuit_of g.H.Receives.holding) c.args.self.now _ _ c.receive.ensures c.args.frame
    (c.read_byte-read.ensures ∙ ap (λ (z : Sizes). read_byte_of c.args.frame z.n) c.sizes.ensures)
