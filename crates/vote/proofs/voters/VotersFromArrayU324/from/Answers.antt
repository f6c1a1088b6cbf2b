use mathlib.Core.Path.{refl, ap}
use native.Mathlib.Omega.{arith}
use lib.ListN.{replicate}
use Rattle.bits.specs.Sums.{up_to}
use Rattle.bits.proofs.Lists.{part_step, part-all}
use Rattle.vote.proofs.voters.VotersFromArrayU324.from.Goals as goal

pub loop-i-init : goal.loop-i-init
unfolding up_to
loop-i-init c = refl

pub loop-i-preserved : goal.loop-i-preserved
loop-i-preserved c = part_step _ (replicate 4 0) _ _ _ (omega arith) c.loop-i.invariant refl

pub returns : goal.returns
returns c = ap (λ n. record { words = c.args.words; counts = n }) (part-all _ (replicate 4 0) c.loop-i.invariant (omega arith) (omega arith))
