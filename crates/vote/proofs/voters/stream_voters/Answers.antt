use Prim.Native.Nat.{◌*◌, ◌+◌, ◌-◌, ◌%◌, ◌^◌, ◌<◌}
use mathlib.Core.Bool.{cond}
use mathlib.Core.Path.{◌≡◌, refl, sym, ap, ◌∙◌}
use native.Mathlib.Nat.{div-eq_of_lt, mul-zero, zero-mul}
use native.Mathlib.Omega.{arith}
use lib.Count.{count_leading_zeros}
use borrow.Author.Rules.{rules}
use Rattle.bits.specs.Sums.{sum_below}
use Rattle.bits.specs.Digits.{bit, from_digits, shift_up}
use Rattle.bits.proofs.Digits.{bit_le}
use Rattle.bits.proofs.Cases.{digit-zero}
use Rattle.code.specs.Limits.{most_checks}
use Rattle.vote.specs.Voters.{voting_by, stream_voters_by}
use Rattle.vote.proofs.Voting.{picked_fits, picked_more, picked_none, picked-end, top-most, top-enough}
use Rattle.vote.proofs.WhoVotes.{voting-lt}
use Rattle.vote.proofs.voters.stream_voters.Goals as goal
use Rattle.vote.proofs.voters.stream_voters.Goals.{then-digit-eq1+then-check_votes, else-digit-eq1, else-digit-eq1-via-then-digit-eq1+else-check_votes, else-digit-eq1-via-else-digit-eq1}

pub loop-q-init : goal.loop-q-init
unfolding from_digits sum_below
loop-q-init c = refl

pub check_votes-requires : goal.check_votes-requires
check_votes-requires c =
    let most = top-most c.args.all in
    search rules

pub overflow_add-word : goal.overflow_add-word
unfolding shift_up
overflow_add-word c =
    let most = top-most c.args.all in
    record { fits = picked_fits c.args.all _ (λ r. voting-lt _ _ _ _ _ _ _) c.loop-q.q c.loop-q.invariant (omega arith) }

pub loop-q-preserved : goal.loop-q-preserved
unfolding shift_up
loop-q-preserved c =
    let l = c.loop-q in
    let a = c.args in
    let d = voting_by a.generators.now a.checks.now a.erased.now a.sizes.k a.sizes.p a.i in
    let most = top-most a.all in
    let none : bit a.all l.q * d l.q ≡ 0 → l.word ≡ from_digits (l.q + 1) (λ r. bit a.all r * d r) = picked_none a.all d (λ r. voting-lt _ _ _ _ _ _ _) l.q l.invariant in
    elim c.if-digit-eq1.branch [
      | then-digit-eq1+then-check_votes w ↦
          rw w.word-is
          (picked_more a.all d (λ r. voting-lt _ _ _ _ _ _ _) l.q l.invariant (omega arith) (sym c.digit.ensures ∙ w.if-digit-eq1.true)
          (sym w.check_votes.ensures ∙ ap (λ b. cond b 1 0) w.if-check_votes.true))
      | else-digit-eq1 w ↦
          rw w.word-is
          (elim w.else-digit-eq1.branch [
            | else-digit-eq1-via-then-digit-eq1+else-check_votes v ↦
                none (ap (λ x. bit a.all l.q * x) (sym v.check_votes.ensures ∙ ap (λ b. cond b 1 0) v.if-check_votes.false) ∙ mul-zero (bit a.all l.q))
            | else-digit-eq1-via-else-digit-eq1 v ↦
                none (ap (λ x. x * d l.q) (digit-zero (bit_le a.all l.q) (λ e. v.if-digit-eq1.false (c.digit.ensures ∙ e))) ∙ zero-mul (d l.q))
          ])
    ]

pub returns : goal.returns
unfolding stream_voters_by
returns c =
    let a = c.args in
    let l = c.loop-q in
    let most = top-most a.all in
    let end : l.q ≡ 32 - count_leading_zeros 32 (a.all % 2 ^ most_checks) = omega arith in
    let below : a.all % 2 ^ most_checks < 2 ^ l.q = rw end (top-enough a.all) in
    picked-end a.all (voting_by a.generators.now a.checks.now a.erased.now a.sizes.k a.sizes.p a.i) (λ r. voting-lt _ _ _ _ _ _ _) l.q (omega arith)
    (omega (arith, div-eq_of_lt below)) l.invariant
