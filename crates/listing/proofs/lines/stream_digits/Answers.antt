use Rattle.bits.specs.Sums.{up_to}
use Rattle.outcomes.specs.Text.{spaced}
use native.Mathlib.Omega.{arith}
use Rattle.outcomes.proofs.Writing.{stored-nothing, stored-both, stored-as}
use Rattle.listing.proofs.LineParts.{digits-next}
use Rattle.listing.proofs.lines.stream_digits.Goals as goal

pub loop-i-init : goal.loop-i-init
unfolding up_to spaced
loop-i-init c = stored-nothing _ (omega arith)

pub loop-i-preserved : goal.loop-i-preserved
loop-i-preserved c = stored-as (digits-next c.args.frame c.loop-i.i) (stored-both c.loop-i.invariant c.stream_digit.ensures)
