use Prim.Native.Nat.{ℕ, ◌≤◌, ◌<◌}
use mathlib.Core.Bool.{cond}
use mathlib.Core.Path.{◌≡◌}
use mathlib.Core.Logic.{◌⊎◌, inl, inr}
use lib.Dec.{ltb, leb}
use lib.ListN.{length}
use Rattle.bits.proofs.Cases.{le-or-lt}
use borrow.Author.Tests.{lt-ltb, le-ltb, lt-leb, le-leb}
use Rattle.vote.specs.Voting.{if_whole}
use Rattle.vote.proofs.whole.Goals as goal

enough : {n m : ℕ} (x : ℕ) → (m ≤ n) ⊎ (n < m) → cond (ltb n m) 0 x ≡ cond (leb m n) x 0
enough x (inl l) = rw (le-ltb _ _ l, le-leb _ _ l)
enough x (inr l) = rw (lt-ltb _ _ l, lt-leb _ _ l)

pub returns-then-checks-ge-CHECK_WORDS-clause-is : goal.returns-then-checks-ge-CHECK_WORDS-clause-is
unfolding if_whole
returns-then-checks-ge-CHECK_WORDS-clause-is c = λ x. rw (le-ltb _ _ c.if-checks-ge-CHECK_WORDS.true) (enough x (le-or-lt 8 (length c.args.words.now)))

pub returns-else-checks-ge-CHECK_WORDS-clause-is : goal.returns-else-checks-ge-CHECK_WORDS-clause-is
unfolding if_whole
returns-else-checks-ge-CHECK_WORDS-clause-is c = λ x. rw (lt-ltb _ _ c.if-checks-ge-CHECK_WORDS.false, lt-leb _ _ c.if-checks-ge-CHECK_WORDS.false)
