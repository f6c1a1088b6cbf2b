use mathlib.Core.Path.{refl}
use Rattle.code.specs.Code.{sent}
use Rattle.burst.proofs.sender.send_all.Goals as goal

pub returns : goal.returns
unfolding sent
returns g c = λ card G em R.
    let first = c.send_information-after.ensures card G R in
    rw em at (c.send_tail.ensures card c.args.input.now c.args.output.now G refl first.0 first.1)
