-- The loop has the checks that vote of the streams that it passed.
use mathlib.Core.Path.{◌≡◌}
use mathlib.Core.List.{◌++◌}
use lib.ListN.{get_or, drop}
use Rattle.bits.specs.Sums.{up_to}
use Rattle.vote.specs.Voters.{stream_voters_by}
use Rattle.vote.proofs.voters.voting.Given as goal

abbrev pub invariant-loop-i : goal.invariant-loop-i
invariant-loop-i l =
    l.word-items ≡ up_to l.i (λ b. stream_voters_by l.generators l.checks l.erased l.sizes.k l.sizes.p b (get_or l.initial.word-items b 0)) ++ drop l.i l.initial.word-items
