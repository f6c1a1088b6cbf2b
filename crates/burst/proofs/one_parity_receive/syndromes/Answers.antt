use mathlib.Core.Path.{refl}
use native.Mathlib.Omega.{arith}
use Rattle.burst.proofs.OneParityReceiving.{twice-is}
use Rattle.burst.proofs.one_parity_receive.syndromes.Goals as goal

pub returns : goal.returns
returns c = rw (twice-is c.args.m 64 (omega arith)) refl
