use Prim.Native.Nat.{ℕ, ◌*◌, min}
use mathlib.Core.Bool.{Bool}
use mathlib.Core.Path.{◌∙◌}
use lib.Count.{ones}
use lib.Dec.{ltb}
use lib.ListN.{get_or}
use borrow.Author.Rules.{rules}
use Rattle.bits.proofs.Digits.{from_digits-same}
use Rattle.code.specs.Limits.{most_checks}
use Rattle.vote.specs.Voting.{all_by, majority_by, decide_by}
use Rattle.vote.proofs.WhoVotes.{all-error}
use Rattle.vote.proofs.Voting.{when-whole, not-whole}
use Rattle.vote.proofs.decide_all.Goals as goal

pub returns-then-not-whole : goal.returns-then-not-whole
unfolding decide_by
returns-then-not-whole c = not-whole _ _ c.whole.ensures.is c.if-not-whole.true _

pub returns : goal.returns
unfolding decide_by majority_by
returns c =
    let a = c.args in
    let count : ℕ → ℕ = λ i. min (get_or a.counts.now i 0) most_checks in
    let d : ℕ → Bool = λ i. ltb (count i) (2 * ones (all_by a.checks.now i (count i) a.syndromes.now (min a.p 8))) in
    c.decided.ensures d (λ i l b e. search rules)
    ∙ from_digits-same (min a.k 4) _ _ (λ i l. all-error a.counts.now a.checks.now a.syndromes.now a.k (min a.p 8) i l)
    ∙ when-whole _ _ c.whole.ensures.is c.if-not-whole.false _
