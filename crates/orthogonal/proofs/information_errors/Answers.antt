use Prim.Native.Nat.{ℕ, ◌+◌, ◌*◌, ◌%◌}
use mathlib.Core.Path.{◌≡◌, ap, ap₂, ◌∙◌}
use native.Mathlib.Nat.{le_antisymm}
use native.Mathlib.Omega.{arith}
use lib.ListN.{get_or}
use Rattle.bits.specs.Sums.{sum_below, back}
use Rattle.bits.specs.Digits.{bit}
use Rattle.bits.proofs.Sums.{sum_more}
use Rattle.bits.proofs.Digits.{bit-of-zero, bit-xor}
use Rattle.orthogonal.proofs.WordCode.{information-sum}
use Rattle.orthogonal.proofs.information_errors.Goals as goal

pub loop-j-init : goal.loop-j-init
unfolding sum_below
loop-j-init c = λ b l. bit-of-zero b

pub loop-j-preserved : goal.loop-j-preserved
loop-j-preserved c =
    let l = c.loop-j in
    let a = c.args in
    let w = c.word in
    let g = c.word-generator in
    λ b h.
    let pairs : ℕ → ℕ → ℕ = λ x y. sum_below 32 (λ a. bit x a * back (bit y) a b) in
    let f : ℕ → ℕ = λ j. pairs (get_or a.masks.now j 0) (get_or a.generators.now (a.s * 8 + j) 0) in
    let e : pairs w.result g.result ≡ f l.j = ap₂ pairs w.ensures g.ensures in
    let t = c.through_terms-sum.ensures b h ∙ ap (λ x. x % 2) e in
    omega (arith, bit-xor l.sum c.through_terms-sum.result b, l.invariant b h, t, sum_more l.j f)

pub returns : goal.returns
returns c =
    let a = c.args in
    λ b h.
    c.loop-j.invariant b h
    ∙ (ap (λ n. sum_below n (λ j. sum_below 32 (λ i. bit (get_or a.masks.now j 0) i * back (bit (get_or a.generators.now (a.s * 8 + j) 0)) i b)) % 2)
    (le_antisymm c.loop-j.auto.j-end c.loop-j-test.false)
    ∙ information-sum a.generators.now a.masks.now 0 a.p b a.s)
