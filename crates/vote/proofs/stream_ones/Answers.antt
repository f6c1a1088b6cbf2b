use mathlib.Core.Path.{ap, ◌∙◌}
use borrow.Author.Tests.{lt-ltb, le-ltb}
use Rattle.vote.specs.Voting.{ones_by, stream_ones_by}
use Rattle.vote.proofs.Voting.{when-whole, not-whole}
use Rattle.vote.proofs.stream_ones.Goals as goal
use Rattle.vote.proofs.stream_ones.Goals.{else-i-lt4-via-then-i-lt4+else-whole, else-i-lt4-via-else-i-lt4}

pub returns-then-whole : goal.returns-then-whole
unfolding stream_ones_by
returns-then-whole c =
    let a = c.args in
    rw (lt-ltb _ _ c.if-i-lt4.true)
    (c.ones.ensures ∙ ap (ones_by a.checks.now a.i a.voting a.words.now) c.min.ensures ∙ when-whole _ _ c.whole.ensures.is c.if-whole.true _)

pub returns-else-i-lt4 : goal.returns-else-i-lt4
unfolding stream_ones_by
returns-else-i-lt4 c =
    elim c.else-i-lt4.branch [
      | else-i-lt4-via-then-i-lt4+else-whole w ↦ rw (lt-ltb _ _ w.if-i-lt4.true) (not-whole _ _ w.whole.ensures.is w.if-whole.false _)
      | else-i-lt4-via-else-i-lt4 w ↦ rw (le-ltb _ _ w.if-i-lt4.false)
    ]
