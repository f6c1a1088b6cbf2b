-- The number has one digit, two, or the digits of its hundredth and the last two.
use mathlib.Core.Path.{sym, ap, ◌∙◌}
use mathlib.Core.List.{[], ◌∷◌}
use Prim.Native.Nat.{ℕ}
use native.Mathlib.Omega.{arith}
use Rattle.outcomes.proofs.Writing.{stored-both, stored-as}
use Rattle.listing.proofs.Decimal.{decimal_digit, decimal-two, decimal-more}
use Rattle.listing.proofs.text.+number.Goals as goal

pub returns-then-n-lt10 : goal.returns-then-n-lt10
returns-then-n-lt10 t c = stored-as (ap (λ (d : ℕ). d ∷ []) c.glyph.ensures ∙ sym (decimal_digit c.args.n c.if-n-lt10.true)) c.put.ensures

pub returns-then-n-lt100 : goal.returns-then-n-lt100
returns-then-n-lt100 t c = stored-as (sym (decimal-two c.args.n (omega arith) c.if-n-lt100.true)) c.pair.ensures

pub returns : goal.returns
returns t c = stored-as (sym (decimal-more c.args.n (omega arith))) (stored-both c.number.ensures c.pair-2.ensures)
