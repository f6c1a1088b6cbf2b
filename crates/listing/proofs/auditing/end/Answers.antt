use mathlib.Core.Path.{refl}
use native.Mathlib.Omega.{arith}
use Rattle.listing.specs.Auditing.{audit_room}
use Rattle.listing.proofs.AtFront.{front-stored}
use Rattle.listing.proofs.Decimal.{decimal-length}
use Rattle.listing.proofs.LineParts.{end-parts}
use Rattle.listing.proofs.auditing.end.Goals as goal

pub returns : goal.returns
returns c =
    let passed = c.args.passed in
    let few = decimal-length 19 passed (omega (arith, c.ranges.passed)) in
    front-stored {most = 25} audit_room refl (record { stored = c.end_line.ensures; within = omega (arith, end-parts passed, few) })
    c.new-cursor.ensures.front (omega arith) (omega arith)
