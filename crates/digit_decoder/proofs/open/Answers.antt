use Rattle.receiving.proofs.Opening.{opens}
use Rattle.digit_decoder.specs.Claims.{Claims}
use Rattle.digit_decoder.specs.Receive.{second_circuit}
use Rattle.digit_decoder.proofs.Follow.{claims-of}
use Rattle.digit_decoder.proofs.open.Goals as goal

pub returns : goal.returns
returns c = opens second_circuit Claims claims-of c.open.ensures
