use Prim.Native.Nat.{ℕ, ◌+◌, ◌-◌, ◌%◌, min}
use mathlib.Core.Path.{◌≡◌, ap, ap₂, ◌∙◌}
use native.Mathlib.Omega.{arith}
use Rattle.bits.specs.Digits.{from_digits, shift_up}
use Rattle.code.specs.Registers.{parity_by, digit_by, frame_by}
use Rattle.code.proofs.Registers.{frame-start, frame-more, frame-more-fits}
use Rattle.code.proofs.frame.Goals as goal
use Rattle.code.proofs.frame.Goals.{After-parity}

pub loop-j-init : goal.loop-j-init
unfolding shift_up
loop-j-init c =
    let a = c.args in
    ap (λ (n : ℕ). a.info % shift_up 1 n) c.min-streams.ensures ∙ frame-start a.generators.now a.registers.now a.k a.info

-- one turn adds the parity digit at its place
turn : (c : After-parity) →
    let a = c.args in
    let l = c.loop-j in
    l.digits + shift_up c.parity.result (c.min-streams.result + l.j)
    ≡ from_digits (min a.k 4 + l.j) (digit_by a.generators.now a.registers.now a.k a.info)
    + shift_up (parity_by a.generators.now a.registers.now a.k l.j) (min a.k 4 + l.j)
turn c = ap₂ ◌+◌ c.loop-j.invariant (ap₂ shift_up c.parity.ensures (ap (λ (n : ℕ). n + c.loop-j.j) c.min-streams.ensures))

pub overflow_add-digits-in-loop-j : goal.overflow_add-digits-in-loop-j
unfolding shift_up
overflow_add-digits-in-loop-j c =
    let a = c.args in
    record {
      fits = omega (arith, turn (goal.at.overflow_add-digits-in-loop-j c).After-parity, frame-more-fits a.generators.now a.registers.now a.k a.info c.loop-j.j (omega arith));
    }

pub loop-j-preserved : goal.loop-j-preserved
unfolding shift_up
loop-j-preserved c =
    let a = c.args in
    turn (goal.at.loop-j-preserved c).After-parity ∙ frame-more a.generators.now a.registers.now a.k a.info c.loop-j.j (omega arith)

pub returns : goal.returns
unfolding frame_by
returns c =
    let a = c.args in
    let e : min a.k 4 + c.loop-j.j ≡ min a.k 4 + min a.p (8 - min a.k 4) = omega arith in
    c.loop-j.invariant ∙ ap (λ (n : ℕ). from_digits n (digit_by a.generators.now a.registers.now a.k a.info)) e
