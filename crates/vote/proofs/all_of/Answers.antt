use Prim.Native.Nat.{ℕ, ◌+◌, ◌-◌, ◌*◌, ◌%◌, ◌^◌, ◌<◌}
use mathlib.Core.Path.{◌≡◌, ap, ◌∙◌}
use native.Mathlib.Omega.{arith}
use lib.Pow.{pow_mono}
use Rattle.code.specs.Limits.{check_start}
use Rattle.vote.specs.Voting.{check_by, all_by}
use Rattle.vote.proofs.Voting.{check-lt, digits-from-none, digits-from-lt, digits-from-more, digits-from-end}
use Rattle.vote.proofs.all_of.Goals as goal
use Rattle.vote.proofs.all_of.Goals.{After-check}

pub loop-q-init : goal.loop-q-init
loop-q-init c =
    let a = c.args in
    digits-from-none (λ r. check_by a.checks.now (check_start a.i r) a.words.now a.p) a.count

-- the word leaves room for one digit more
word_lt : (c : After-check) → c.loop-q.word < 2 ^ 31
word_lt c =
    let l = c.loop-q in
    let a = c.args in
    let h = digits-from-lt (λ r. check_by a.checks.now (check_start a.i r) a.words.now a.p) (λ r. check-lt _ _ _ _) a.count l.q in
    omega (arith, h, l.invariant, pow_mono {i = a.count - l.q} {j = 31} (omega arith))

pub overflow_add-word : goal.overflow_add-word
overflow_add-word c =
    let d : c.check.result < 2 = rw c.check.ensures (check-lt _ _ _ _) in
    omega (arith, word_lt (goal.at.overflow_add-word c).After-check)

pub loop-q-preserved : goal.loop-q-preserved
loop-q-preserved c =
    let l = c.loop-q in
    let a = c.args in
    let q : l.q ≡ l.q - 1 + 1 = omega arith in
    let w : l.word * 2 % 2 ^ 32 ≡ l.word * 2 = omega (arith, word_lt (goal.at.loop-q-preserved c).After-check) in
    ap (λ (x : ℕ). x + c.check.result) w
    ∙ digits-from-more (λ r. check_by a.checks.now (check_start a.i r) a.words.now a.p) (λ r. check-lt _ _ _ _) a.count (l.q - 1) (omega arith) (rw q at l.invariant)
    c.check.ensures

pub returns : goal.returns
unfolding all_by
returns c =
    let l = c.loop-q in
    let a = c.args in
    let z : l.q ≡ 0 = omega (arith, c.loop-q-test.false) in
    rw z at l.invariant ∙ digits-from-end (λ r. check_by a.checks.now (check_start a.i r) a.words.now a.p) (λ r. check-lt _ _ _ _) a.count
