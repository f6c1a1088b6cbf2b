-- The loop's word has the checks that it passed, the last ones, as its digits.
use mathlib.Core.Path.{◌≡◌}
use Rattle.code.specs.Limits.{check_start}
use Rattle.vote.specs.Voting.{check_by}
use Rattle.vote.proofs.Voting.{digits_from}
use Rattle.vote.proofs.all_of.Given as goal

abbrev pub invariant-loop-q : goal.invariant-loop-q
invariant-loop-q l = l.word ≡ digits_from (λ r. check_by l.checks (check_start l.i r) l.words l.p) l.count l.q
