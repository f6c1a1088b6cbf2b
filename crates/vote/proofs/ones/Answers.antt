use borrow.Author.Rules.{rules}
use Rattle.code.specs.Limits.{check_start}
use Rattle.vote.specs.Voting.{check_by, all_by, ones_by}
use Rattle.vote.proofs.Voting.{check-lt, top-most, top-enough, picked_of}
use Rattle.vote.proofs.ones.Goals as goal

pub all_of-requires : goal.all_of-requires
all_of-requires c =
    let most = top-most c.args.voting in
    search rules

pub returns : goal.returns
unfolding ones_by all_by
returns c =
    let a = c.args in
    picked_of (λ r. check_by a.checks.now (check_start a.i r) a.words.now a.p) (λ r. check-lt _ _ _ _) a.voting _ (top-most a.voting) (top-enough a.voting) c.all_of.ensures
