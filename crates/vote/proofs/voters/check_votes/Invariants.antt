-- The loop's word has no 1 exactly if none of the streams that it passed drops the vote (`WhoVotes`).
use Prim.Native.Nat.{ℕ, ◌<◌}
use mathlib.Core.Path.{◌≡◌}
use Rattle.orthogonal.specs.Pass.{information_streams, parity_streams}
use Rattle.orthogonal.proofs.Clashes.{Clear}
use Rattle.vote.proofs.voters.check_votes.Given as goal

abbrev pub invariant-loop-s : goal.invariant-loop-s
invariant-loop-s l =
    (l.met ≡ 0 → (r : ℕ) → r < l.s → Clear l.generators l.masks l.erased (information_streams l.sizes.k) (parity_streams l.sizes.k l.sizes.p) l.i r)
    × (((r : ℕ) → r < l.s → Clear l.generators l.masks l.erased (information_streams l.sizes.k) (parity_streams l.sizes.k l.sizes.p) l.i r) → l.met ≡ 0)
