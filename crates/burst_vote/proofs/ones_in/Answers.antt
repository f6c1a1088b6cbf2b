use mathlib.Core.Path.{refl}
use native.Mathlib.Omega.{arith}
use lib.Bits.{and_lt}
use Rattle.vote.proofs.Voting.{ones-of-common}
use Rattle.burst_vote.proofs.ones_in.Goals as goal

pub returns : goal.returns
returns c = let a = c.args in ones-of-common a.mask a.word refl (and_lt 32 a.mask a.word (omega arith) (omega arith))
