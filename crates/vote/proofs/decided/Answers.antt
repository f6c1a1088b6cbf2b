use Prim.Native.Nat.{◌<◌, min}
use mathlib.Core.Bool.{cond}
use mathlib.Core.Path.{◌≡◌, refl, ap, ◌∙◌}
use native.Mathlib.Omega.{arith}
use borrow.Author.Rules.{rules}
use Rattle.bits.specs.Sums.{sum_below}
use Rattle.bits.specs.Digits.{from_digits, shift_up}
use Rattle.bits.proofs.Cases.{bool-digit}
use Rattle.bits.proofs.Words.{placed-lt, placed-fits, placed-more}
use Rattle.vote.proofs.decided.Goals as goal

pub loop-i-init : goal.loop-i-init
unfolding from_digits sum_below
loop-i-init g c = (omega arith, λ d h. refl)

pub overflow_add-errors : goal.overflow_add-errors
unfolding shift_up
overflow_add-errors g c =
    let digit : c.from.result < 2 = search rules in
    record { fits = placed-fits c.loop-i.errors c.from.result c.loop-i.i c.loop-i.invariant.0 digit (omega arith) }

pub loop-i-preserved : goal.loop-i-preserved
unfolding shift_up
loop-i-preserved g c =
    let l = c.loop-i in
    let digit : c.from.result < 2 = search rules in (
      placed-lt l.errors c.from.result l.i l.invariant.0 digit (omega arith),
      λ d h.
          let is : c.wrong.result ≡ d l.i = h l.i (omega arith) _ c.wrong.ensures in
          placed-more l.errors c.from.result l.i l.invariant.0 digit (omega arith) (λ i. cond (d i) 1 0) (l.invariant.1 d h) (rw (c.from.ensures, is) (bool-digit (d l.i))),
    )

pub returns : goal.returns
returns g c = λ d h.
    let n : c.loop-i.i ≡ min c.args.k 4 = omega arith in
    c.loop-i.invariant.1 d h ∙ ap (λ n. from_digits n (λ i. cond (d i) 1 0)) n
