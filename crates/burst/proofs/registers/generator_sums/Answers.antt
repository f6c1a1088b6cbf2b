use native.Mathlib.Omega.{arith}
use lib.ListN.{length-set}
use mathlib.Core.Path.{◌∙◌}
use Rattle.burst.proofs.Summing.{sums-more}
use Rattle.burst.proofs.registers.generator_sums.Goals as goal

pub loop-j-preserved : goal.loop-j-preserved
loop-j-preserved c =
    let l = c.loop-j in
    (length-set l.sums l.j c.stream_sums.result ∙ l.invariant.0, sums-more _ _ _ l.j _ _ l.invariant.1 (omega arith) c.stream_sums.ensures)
