use Prim.Native.Nat.{ℕ, ◌+◌, ◌%◌, ◌<◌}
use mathlib.Core.Path.{◌≡◌, refl, ap, ap₂, ◌∙◌}
use native.Mathlib.Omega.{arith}
use lib.ListN.{length-take}
use Rattle.std.proofs.lemmas.List.{get_or-take}
use Rattle.bits.specs.Sums.{sum_below}
use Rattle.bits.specs.Digits.{bit, from_digits}
use Rattle.bits.proofs.Words.{placed-lt, placed-fits, placed-more}
use Rattle.decoder.specs.Held.{corrected_digit, corrected_by}
use Rattle.decoder.proofs.registers.corrected.Goals as goal

pub loop-i-init : goal.loop-i-init
unfolding from_digits sum_below
loop-i-init c = (omega arith, refl)

pub overflow_add-received : goal.overflow_add-received
unfolding bit
overflow_add-received c = omega arith

pub overflow_add-frame : goal.overflow_add-frame
overflow_add-frame c =
    let l = c.loop-i in
    let d = (c.digit-received.result + c.digit.result) % 2 in
    record { fits = omega (arith, c.shift_up-frame.ensures, placed-fits l.frame d l.i l.invariant.0 (omega arith) (omega arith)) }

pub loop-i-preserved : goal.loop-i-preserved
unfolding corrected_digit
loop-i-preserved c =
    let l = c.loop-i in
    let a = c.args in
    let d = (c.digit-received.result + c.digit.result) % 2 in
    let hd : d < 2 = omega arith in
    let hi : l.i < 32 = omega arith in (
      rw c.shift_up-frame.ensures (placed-lt l.frame d l.i l.invariant.0 hd hi),
      ap (λ (x : ℕ). l.frame + x) c.shift_up-frame.ensures
          ∙ placed-more l.frame d l.i l.invariant.0 hd hi (corrected_digit a.history.now a.errors a.m) l.invariant.1
          (ap₂ (λ (x y : ℕ). (x + y) % 2) (c.digit-received.ensures ∙ ap (λ (x : ℕ). bit x a.m) (get_or-take a.k a.history.now l.i 0 (omega (arith, length-take a.k a.history.now)))) c.digit.ensures),
    )

pub returns : goal.returns
unfolding corrected_by
returns c =
    let l = c.loop-i in
    let a = c.args in
    let all : l.i ≡ a.k = omega (arith, length-take a.k a.history.now) in
    l.invariant.1 ∙ ap (λ (n : ℕ). from_digits n (corrected_digit a.history.now a.errors a.m)) all
