use Prim.Native.Nat.{◌^◌}
use mathlib.Core.Path.{sym, ◌∙◌}
use native.Mathlib.Omega.{arith}
use lib.Pow.{pow_mono}
use borrow.Author.Tests.{le-ltb, lt-leb}
use Rattle.bits.proofs.Words.{beyond-test}
use Rattle.bits.proofs.beyond.Goals as goal

pub returns-then-n-lt8 : goal.returns-then-n-lt8
returns-then-n-lt8 c = beyond-test c.args.frame c.args.n

pub returns-else-n-lt8 : goal.returns-else-n-lt8
returns-else-n-lt8 c =
    le-ltb _ _ c.if-n-lt8.false
    ∙ sym
    (lt-leb (2 ^ c.args.n) c.args.frame
    (omega (arith, pow_mono {i = 8} {j = c.args.n} c.if-n-lt8.false, c.ranges.frame.fits)))
