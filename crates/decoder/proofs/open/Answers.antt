use Rattle.receiving.proofs.Opening.{opens}
use Rattle.decoder.specs.Claims.{Claims}
use Rattle.decoder.specs.Receive.{first_circuit}
use Rattle.decoder.proofs.Follow.{claims-of}
use Rattle.decoder.proofs.open.Goals as goal

pub returns : goal.returns
returns c = opens first_circuit Claims claims-of c.open.ensures
