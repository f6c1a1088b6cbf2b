use Prim.Native.Nat.{min}
use mathlib.Core.Path.{ap, ◌∙◌}
use Rattle.code.specs.declared.Sizes.{Sizes}
use Rattle.receiving.specs.Readings.{read_frame_of}
use Rattle.receiving.specs.Receive.{circuit_of}
use Rattle.receiving.proofs.Outcomes.{readings-are}
use Rattle.receiving.proofs.Session.receive_readings.Goals as goal

pub returns : goal.returns
returns g c =
    readings-are (circuit_of g.H.Receives.holding) c.args.self.now _ _ c.receive.ensures c.args.readings
    (c.read_frame-read.ensures ∙ ap (λ (z : Sizes). read_frame_of c.args.readings (min z.n 8)) c.sizes.ensures)
