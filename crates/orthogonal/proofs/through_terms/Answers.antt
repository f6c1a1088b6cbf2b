use Prim.Native.Nat.{◌-◌}
use mathlib.Core.Path.{◌≡◌}
use native.Mathlib.Omega.{arith}
use lib.Bits.{and_le_r}
use Rattle.bits.proofs.Terms.{lowest}
use Rattle.orthogonal.proofs.Meeting.{kept-first, kept_next, kept-last}
use Rattle.orthogonal.proofs.through_terms.Goals as goal

pub loop-rest-init : goal.loop-rest-init
loop-rest-init c = (omega arith, kept-first)

pub overflow_shr-sum : goal.overflow_shr-sum
overflow_shr-sum c = (lowest 32 c.loop-rest.rest (omega arith) c.loop-rest.invariant.0).0

pub loop-rest-smaller : goal.loop-rest-smaller
loop-rest-smaller c = let l = c.loop-rest.rest in omega (arith, and_le_r l (l - 1))

pub loop-rest-preserved : goal.loop-rest-preserved
loop-rest-preserved c =
    let l = c.loop-rest in
    let low = lowest 32 l.rest (omega arith) l.invariant.0 in
    (omega (arith, and_le_r l.rest (l.rest - 1)), kept_next low.0 low.1 l.invariant.1)

pub returns : goal.returns
returns c =
    let l = c.loop-rest in
    let z : l.rest ≡ 0 = omega arith in
    kept-last (omega arith) (rw z at l.invariant.1)
