use Prim.Native.Nat.{ℕ, ◌+◌, ◌*◌, ◌%◌, ◌^◌, ◌≤◌, ◌<◌}
use native.Mathlib.Omega.{arith}
use lib.Seq.{get_or-set_same, get_or-set_other}
use lib.ListN.{length-set}
use lib.Pow.{pow_mono}
use mathlib.Core.Path.{◌∙◌}
use borrow.Author.Count.{below_more}
use Rattle.burst.proofs.OneParityReceiving.{twice-is}
use Rattle.burst.proofs.one_parity_receive.puts.Goals as goal

-- a frame of the table
turn-of : (k : ℕ) {f : ℕ} → k ≤ 4 → f < 2 * 2 ^ k % 2 ^ 32 → (f < 2 ^ (k + 1)) × (f < 32)
turn-of k {f} h l =
    let w : f < 2 ^ (k + 1) = rw (twice-is k 32 (omega arith)) at l in
    (w, omega (arith, pow_mono {i = k + 1} {j = 5} (omega arith)))

pub bounds-all-frame : goal.bounds-all-frame
bounds-all-frame c = (turn-of c.args.k (omega arith) c.loop-frame-test.true).1

pub loop-frame-preserved : goal.loop-frame-preserved
loop-frame-preserved c =
    let l = c.loop-frame in
    let small = turn-of c.args.k (omega arith) c.loop-frame-test.true in (
      length-set l.all l.frame c.put.result ∙ l.invariant.0,
      below_more _ l.frame (λ f lf. get_or-set_other l.all l.frame f c.put.result 0 (λ q. omega arith) ∙ l.invariant.1 f lf)
          (get_or-set_same l.all l.frame c.put.result 0 (omega (arith, small.1)) ∙ c.put.ensures),
    )

pub returns : goal.returns
returns c = λ f l.
    let all : 2 ^ (c.args.k + 1) ≤ c.loop-frame.frame = rw (twice-is c.args.k 32 (omega arith)) at c.loop-frame-test.false in
    c.loop-frame.invariant.1 f (omega arith)
