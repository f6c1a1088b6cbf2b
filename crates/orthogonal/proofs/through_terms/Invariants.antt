-- The sum so far and the terms that are left make the whole (`Meeting`).
use Prim.Native.Nat.{◌^◌, ◌<◌}
use Rattle.orthogonal.proofs.Meeting.{Kept}
use Rattle.orthogonal.proofs.through_terms.Given as goal

abbrev pub invariant-loop-rest : goal.invariant-loop-rest
invariant-loop-rest l = (l.rest < 2 ^ 32) × Kept l.mask l.generator l.sum l.rest

abbrev pub decreases-loop-rest : goal.decreases-loop-rest
decreases-loop-rest l = l.rest
