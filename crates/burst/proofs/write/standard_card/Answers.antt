use Prim.Native.Nat.{◌≤◌, ℕ}
use mathlib.Core.Path.{◌≡◌, sym, ap, ◌∙◌}
use native.Mathlib.Omega.{arith}
use lib.IntN.{ℤ}
use Rattle.std.specs.Prelude.{Ok}
use Rattle.code.specs.Code.{most_frames}
use Rattle.outcomes.specs.Outcome.{outcome, answer_of}
use Rattle.outcomes.proofs.Answers.{answer-held}
use Rattle.standard.proofs.Answers.{count_most}
use Rattle.burst.proofs.write.standard_card.Goals as goal

pub returns-clause-output_after : goal.returns-clause-output_after
returns-clause-output_after c =
    let wrote = c.write_standard in
    let after = wrote.new.output in
    let few : (count : ℕ) → wrote.result ≡ Ok count → count ≤ most_frames = λ count e.
    omega (arith, count_most c.args.checks c.args.output.now wrote.ensures.standard_cards (ap (λ came. outcome (answer_of came) after) (sym e) ∙ wrote.ensures.output_after)) in
    ap (λ (z : ℤ). outcome z after) (answer-held c.of.result wrote.result c.of.type_inv c.of.ensures few) ∙ wrote.ensures.output_after
