-- The own digit is digit 0 of stream i, and no other is touched.
use Prim.Native.Nat.{ℕ, zero, suc, ◌-◌, ◌*◌, ◌/◌, ◌%◌}
use mathlib.Core.Path.{◌≡◌, sym, ap, ◌∙◌}
use native.Mathlib.Nat.{one-mul, zero-mul}
use native.Mathlib.Omega.{arith}
use lib.Bits.{bit_and}
use Rattle.bits.specs.Digits.{bit}
use Rattle.bits.proofs.Digits.{bit-zero, bit-suc, bit-and}
use Rattle.code.specs.Checks.{besides}
use Rattle.code.proofs.Besides.{besides-own, besides-other}
use Rattle.orthogonal.proofs.clash.Goals as goal

own-gone : (x i : ℕ) (b : ℕ) → bit (x - x % 2) b ≡ besides i b i * bit x b
own-gone x i zero = bit-zero (x - x % 2) ∙ last ∙ sym (ap (λ d. d * bit x 0) (besides-own i) ∙ zero-mul (bit x 0))
  where
    last : (x - x % 2) % 2 ≡ 0
    last = omega arith
own-gone x i (suc b) =
    let q : (x - x % 2) / 2 ≡ x / 2 = omega arith in
    bit-suc (x - x % 2) b ∙ ap (λ y. bit y b) q ∙ sym (bit-suc x b)
    ∙ sym (ap (λ d. d * bit x (suc b)) (besides-other i (suc b) i (λ z w. absurd (omega arith))) ∙ one-mul (bit x (suc b)))

pub returns-then-s-i : goal.returns-then-s-i
returns-then-s-i c =
    let a = c.args in
    let both = bit_and a.errors a.before in
    record {
      both_are = λ b.
          own-gone both a.i b ∙ ap (λ s. besides a.i b s * bit both b) (sym c.if-s-i.true)
          ∙ ap (λ x. besides a.i b a.s * x) (bit-and a.errors a.before b);
    }

pub returns-else-s-i : goal.returns-else-s-i
returns-else-s-i c =
    let a = c.args in
    let both = bit_and a.errors a.before in
    record {
      both_are = λ b.
          sym (ap (λ d. d * bit both b) (besides-other a.i b a.s (λ _ w. c.if-s-i.false w)) ∙ one-mul (bit both b))
          ∙ ap (λ x. besides a.i b a.s * x) (bit-and a.errors a.before b);
    }
