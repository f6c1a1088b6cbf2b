use Prim.Native.Nat.{ℕ, ◌<◌}
use mathlib.Core.Path.{◌≡◌, sym, ap, ◌∙◌}
use mathlib.Core.List.{List, [], ◌∷◌, ◌++◌}
use native.Mathlib.Omega.{arith}
use Rattle.bits.specs.Digits.{bit}
use Rattle.bits.proofs.Digits.{bit_le}
use Rattle.outcomes.specs.Text.{glyph, text}
use Rattle.outcomes.proofs.Writing.{stored-as}
use Rattle.listing.proofs.Decimal.{decimal_digit}
use Rattle.listing.proofs.lines.stream_digit.Goals as goal

pub glyph-requires : goal.glyph-requires
glyph-requires c = omega (arith, c.digit-digit.ensures, bit_le c.from.result c.args.i)

pub returns : goal.returns
unfolding text
returns c =
    let same : c.digit-digit.result ≡ bit c.args.frame c.args.i = c.digit-digit.ensures ∙ ap (λ (f : ℕ). bit f c.args.i) c.from.ensures in
    let one : bit c.args.frame c.args.i < 10 = omega (arith, bit_le c.args.frame c.args.i) in
    stored-as
    (ap (λ (d : ℕ). text " " ++ (d ∷ [])) (c.glyph.ensures ∙ ap (λ (x : ℕ). glyph x) same) ∙ ap (λ (s : List ℕ). text " " ++ s) (sym (decimal_digit _ one)))
    c.put_all.ensures
