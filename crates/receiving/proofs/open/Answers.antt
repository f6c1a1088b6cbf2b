use mathlib.Core.Path.{refl}
use Rattle.receiving.specs.Receive.{circuit_of}
use Rattle.receiving.proofs.Opening.{opens-fresh}
use Rattle.receiving.proofs.open.Goals as goal

pub returns-in-Ok : goal.returns-in-Ok
returns-in-Ok g c =
    opens-fresh (circuit_of g.H.Receives.holding) (λ card n. refl) c.args.card.now c.read_card.result c.read_card.ensures _ _
    (rw (c.fresh.ensures.verdict, c.in-Ok.is)) (rw (c.fresh.ensures.session, c.fresh.ensures.verdict, c.in-Ok.is))

pub returns-in-Err : goal.returns-in-Err
returns-in-Err g c =
    opens-fresh (circuit_of g.H.Receives.holding) (λ card n. refl) c.args.card.now c.read_card.result c.read_card.ensures _ _
    (rw (c.fresh-in-Err.ensures.verdict, c.in-Err.is)) (rw (c.fresh-in-Err.ensures.session, c.fresh-in-Err.ensures.verdict, c.empty_card.ensures, c.in-Err.is))
