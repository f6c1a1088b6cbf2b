use Prim.Native.Nat.{◌+◌, ◌-◌, ◌<◌}
use mathlib.Core.Path.{◌≡◌, refl, sym, ap, ◌∙◌}
use mathlib.Core.List.{◌∷◌}
use native.Mathlib.Omega.{arith}
use lib.ListN.{length, length-set, replicate}
use Rattle.vote.specs.Voting.{decide_by_all}
use Rattle.burst.specs.Held.{OneParity}
use Rattle.burst.proofs.Deciding.{all-small}
use Rattle.burst.proofs.HandingOut.{hand-none, all-handed}
use Rattle.burst.proofs.OneParityReceiving.{word-turn}
use Rattle.burst.proofs.one_parity_receive.receive.Goals as goal

pub loop-reached-init : goal.loop-reached-init
loop-reached-init c =
    let a = c.args in
    let one_parity : OneParity a.card.now c.puts-puts.result =
    record { guaranteed = c.requires.guaranteed; one = c.requires.one; sums = c.stream_sums.result; sums_are = c.stream_sums.ensures; puts_are = c.puts-puts.ensures } in
    let reached = c.hand_through-reached.ensures in (
      omega (arith, reached.stops),
      omega arith,
      reached.through a.card.now a.output.now one_parity refl refl refl (hand-none _ _ _ c.filled-first.ensures),
    )

pub corrected-requires : goal.corrected-requires
corrected-requires c = (omega arith, rw c.voted-errors.ensures (all-small _ _ _ _ _ (omega arith)))

pub fed_back-word-requires : goal.fed_back-word-requires
fed_back-word-requires c = (omega arith, rw c.voted-errors.ensures (all-small _ _ _ _ _ (omega arith)))

pub loop-reached-preserved : goal.loop-reached-preserved
loop-reached-preserved c =
    let a = c.args in
    let card = a.card.now in
    let l = c.loop-reached in
    let one_parity : OneParity card c.puts-puts.result =
    record { guaranteed = c.requires.guaranteed; one = c.requires.one; sums = c.stream_sums.result; sums_are = c.stream_sums.ensures; puts_are = c.puts-puts.ensures } in
    let through = l.invariant.2 in
    let more : l.reached.u + card.m < length a.input.now = omega arith in
    let turn =
    word-turn card _ one_parity a.input.now c.requires.within l.reached.u c.corrected.result through.0 a.output.now more (omega arith) (through.1 more)
    (c.voted-errors.ensures ∙ ap (λ s. decide_by_all card.counts card.checks (s ∷ replicate 7 0) card.k 1) c.syndromes.ensures)
    c.fed_back-word.ensures c.corrected.ensures through.2 in
    let reached = c.hand_through-reached-in-loop-reached in (
      omega (arith, reached.ensures.stops),
      omega (arith, length-set l.output l.reached.u c.corrected.result),
      reached.ensures.through card a.output.now one_parity refl refl (sym (length-set l.output l.reached.u c.corrected.result ∙ l.invariant.1)) turn,
    )

pub returns : goal.returns
returns c =
    let a = c.args in
    let l = c.loop-reached in
    let e : l.reached.u ≡ length a.input.now - a.card.now.m = omega arith in
    all-handed a.card.now a.input.now a.output.now (rw e at l.invariant.2.2.handed)
