-- The loop's word has those of the checks that it passed that vote.
use Prim.Native.Nat.{◌*◌}
use mathlib.Core.Path.{◌≡◌}
use Rattle.bits.specs.Digits.{bit, from_digits}
use Rattle.vote.specs.Voters.{voting_by}
use Rattle.vote.proofs.voters.stream_voters.Given as goal

abbrev pub invariant-loop-q : goal.invariant-loop-q
invariant-loop-q l = l.word ≡ from_digits l.q (λ r. bit l.all r * voting_by l.generators l.checks l.erased l.sizes.k l.sizes.p l.i r)
