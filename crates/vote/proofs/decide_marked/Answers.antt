use mathlib.Core.Path.{ap, ◌∙◌}
use borrow.Author.Tests.{eq-eqb}
use Rattle.vote.specs.Voters.{voters_by, decide_marked}
use Rattle.vote.specs.Voting.{decide_by}
use Rattle.vote.specs.declared.voters.Voters.{Voters}
use Rattle.vote.proofs.decide_marked.Goals as goal

pub returns-then-any-eq0 : goal.returns-then-any-eq0
unfolding decide_marked voters_by
returns-then-any-eq0 c = rw (eq-eqb _ 0 c.if-any-eq0.true) c.decide_all.ensures

pub returns : goal.returns
unfolding decide_marked
returns c =
    let a = c.args in
    c.decide.ensures
    ∙ ap (λ (v : Voters). decide_by v.words v.counts a.checks.now a.syndromes.now a.sizes.k a.sizes.p) c.voting-voters.ensures
