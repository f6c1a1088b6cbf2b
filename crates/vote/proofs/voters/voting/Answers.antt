use Prim.Native.Nat.{ℕ}
use mathlib.Core.Path.{◌≡◌, refl, ap, ap₂, ◌∙◌}
use mathlib.Core.List.{List}
use native.Mathlib.Omega.{arith}
use lib.ListN.{length, get_or}
use borrow.Author.Tests.{eq-eqb, ne_eqb}
use borrow.Author.Rules.{rules}
use Rattle.bits.specs.Sums.{up_to}
use Rattle.bits.proofs.Lists.{part_step, part-next, part-all}
use Rattle.vote.specs.Voters.{all_voting, stream_voters_by, voters_by}
use Rattle.vote.specs.declared.voters.Voters.{Voters}
use Rattle.vote.proofs.voters.voting.Goals as goal

pub loop-i-init : goal.loop-i-init
unfolding up_to
loop-i-init c = refl

pub loop-i-preserved : goal.loop-i-preserved
loop-i-preserved c =
    let l = c.loop-i in
    let a = c.args in
    part_step _ _ _ _ _ (omega arith) l.invariant
    (c.stream_voters.ensures
    ∙ ap (stream_voters_by a.generators.now a.checks.now a.erased.now a.sizes.k a.sizes.p l.i) (part-next _ _ _ l.invariant))

pub returns-then-any-eq0 : goal.returns-then-any-eq0
unfolding voters_by
returns-then-any-eq0 c = rw (c.all_voting-all.ensures, eq-eqb _ 0 c.if-any-eq0.true) refl

pub returns : goal.returns
unfolding voters_by
returns c =
    let a = c.args in
    let some : List ℕ → ℕ → ℕ = λ all i. stream_voters_by a.generators.now a.checks.now a.erased.now a.sizes.k a.sizes.p i (get_or all i 0) in
    let all-are : c.all_voting-all.result.words ≡ all_voting a.counts.now a.sizes.k = ap (λ (v : Voters). v.words) c.all_voting-all.ensures in
    let four : length c.all_voting-all.result.words ≡ 4 = omega arith in
    let words-are : c.loop-i.word-items ≡ voters_by a.generators.now a.counts.now a.checks.now a.erased.now a.any a.sizes.k a.sizes.p =
    rw (ne_eqb _ 0 c.if-any-eq0.false)
    (part-all (some c.all_voting-all.result.words) _ c.loop-i.invariant (omega arith) (omega arith)
    ∙ ap₂ (λ (n : ℕ) (all : List ℕ). up_to n (some all)) four all-are) in
    rw (← words-are) (search rules)
