use Prim.Native.Nat.{◌*◌, ◌/◌, ◌%◌, ◌^◌}
use mathlib.Core.Path.{ap, ◌∙◌}
use lib.Bits.{bit_xor, xor_lt}
use lib.ListN.{get_or}
use native.Mathlib.Nat.{mod-lt}
use native.Mathlib.Omega.{arith}
use lib.Pow.{pow_pos, pow_mono, shl_exact}
use Rattle.burst.specs.Registers.{put_of}
use Rattle.burst.proofs.Summing.{size_is}
use Rattle.burst.proofs.one_parity_receive.put.Goals as goal

pub bounds-sums-frame : goal.bounds-sums-frame
bounds-sums-frame c =
    let k = c.args.k in
    rw (size_is k (omega arith)) (omega (arith, mod-lt c.args.frame (pow_pos k), pow_mono {i = k} {j = 4} (omega arith)))

pub returns : goal.returns
unfolding put_of
returns c =
    let a = c.args in
    let k = a.k in
    shl_exact {a = c.from.result} 32 a.m 64 (rw c.from.ensures (xor_lt 32 _ _ (c.fits-sums _) (omega arith))) (omega arith)
    ∙ ap (λ x. x * 2 ^ a.m)
    (c.from.ensures ∙ ap (λ x. bit_xor (get_or a.sums.now x 0) (a.frame / 2 ^ k % 2)) (ap (λ n. a.frame % n) (size_is k (omega arith))))
