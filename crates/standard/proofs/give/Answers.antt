-- Each way out by the room that there is.
use mathlib.Core.Path.{refl, sym, ap, ◌∙◌}
use mathlib.Core.List.{List, ◌++◌}
use Prim.Native.Nat.{ℕ}
use lib.ListN.{length, drop}
use Rattle.outcomes.proofs.Outcomes.{refused-is, given_is, fitted_short, fitted-given}
use Rattle.standard.proofs.give.Goals as goal

pub returns-then-output-bytes : goal.returns-then-output-bytes
returns-then-output-bytes c =
    let a = c.args in
    refused-is 13 a.output.now refl ∙ sym (fitted_short a.bytes.now a.output.now c.if-output-bytes.true)

pub returns : goal.returns
returns c =
    let a = c.args in
    let count = length a.bytes.now in
    given_is count a.bytes.now a.output.now refl refl
    (ap (λ (l : List ℕ). l ++ drop count a.output.now) c.copy_from_slice.ensures.after)
    ∙ sym (fitted-given a.bytes.now a.output.now c.if-output-bytes.false)
