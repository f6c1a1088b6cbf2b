use native.Mathlib.Omega.{arith}
use Rattle.burst_vote.proofs.Sorting.{dot-le-ones}
use borrow.Author.Tests.{ltb-true}
use Prim.Native.Nat.{◌<◌}
use lib.Count.{ones}
use Rattle.burst_vote.proofs.joins.Goals as goal

pub returns-then-mask-alone-eq0 : goal.returns-then-mask-alone-eq0
returns-then-mask-alone-eq0 c = λ e.
    let few : ones c.args.mask < 2 = ltb-true _ _ e in
    record { one = λ word. omega (arith, dot-le-ones c.args.mask word (omega arith)); apart = c.if-mask-alone-eq0.true }
