use Prim.Native.Nat.{◌^◌, ◌≤◌}
use native.Mathlib.Omega.{arith}
use lib.ListN.{length-set}
use mathlib.Core.Path.{◌∙◌}
use Rattle.burst.proofs.Summing.{size_is, turn-of, stream-more}
use Rattle.burst.proofs.registers.stream_sums.Goals as goal

pub bounds-sums-x : goal.bounds-sums-x
bounds-sums-x c = (turn-of _ _ c.requires c.loop-x-test.true).1

pub loop-x-preserved : goal.loop-x-preserved
loop-x-preserved c =
    let l = c.loop-x in (
      length-set l.sums l.x c.generator_sum.result ∙ l.invariant.0,
      stream-more _ _ _ _ l.x l.invariant.1 (omega (arith, turn-of _ _ c.requires c.loop-x-test.true)) c.generator_sum.ensures,
    )

pub returns : goal.returns
returns c = λ x l.
    let all : 2 ^ c.args.k ≤ c.loop-x.x = rw (size_is _ c.requires) at c.loop-x-test.false in
    c.loop-x.invariant.1 x (omega arith)
