use Prim.Native.Nat.{ℕ, ◌*◌, min}
use mathlib.Core.Bool.{Bool}
use mathlib.Core.Path.{◌∙◌}
use lib.Count.{ones}
use lib.Dec.{ltb}
use lib.ListN.{get_or}
use borrow.Author.Rules.{rules}
use Rattle.vote.specs.Voting.{ones_by, majority_by, decide_by}
use Rattle.vote.proofs.Voting.{when-whole, not-whole}
use Rattle.vote.proofs.decide.Goals as goal

pub returns-then-not-whole : goal.returns-then-not-whole
unfolding decide_by
returns-then-not-whole c = not-whole _ _ c.whole.ensures.is c.if-not-whole.true _

pub returns : goal.returns
unfolding decide_by majority_by
returns c =
    let a = c.args in
    let v = a.voters.now in
    let d : ℕ → Bool = λ i. ltb (get_or v.counts i 0) (2 * ones (ones_by a.checks.now i (get_or v.words i 0) a.syndromes.now (min a.p 8))) in
    c.decided.ensures d (λ i l b e. search rules)
    ∙ when-whole _ _ c.whole.ensures.is c.if-not-whole.false _
