-- The answers of calls, as the machine's signed numbers of 32 digits.
use Prim.Native.Nat.{ℕ, ◌^◌, ◌≤◌, ◌<◌}
use mathlib.Core.Path.{◌≡◌, refl, ap, ◌∙◌}
use mathlib.Core.List.{List}
use native.Mathlib.Omega.{arith}
use lib.IntN.{ℤ}
use lib.Signed.{mag}
use mir.Syntax.{w32}
use mir.Val.{to_z, of_z}
use mir.Facts.{to_z-of_z}
use Rattle.std.specs.Prelude.{Result, Ok, Err}
use Rattle.code.specs.Code.{most_frames}
use Rattle.card.specs.declared.Refusal.{Refusal}
use Rattle.outcomes.specs.Outcome.{BurstOutcome, outcome, answer_of, held}

-- an answer that a callee gave is read back from its digits
pub answer-is : (z : ℤ) {y : ℤ} → mag z < 2 ^ 31 → z ≡ y → to_z w32 (of_z w32 z) ≡ y
answer-is z h e = to_z-of_z {w = w32} (record { sfits = h }) ∙ e

-- and so is what the call comes to
pub outcome_is : (z : ℤ) (burst : BurstOutcome) {after : List ℕ} → mag z < 2 ^ 31 → outcome z after ≡ burst → outcome (to_z w32 (of_z w32 z)) after ≡ burst
outcome_is z burst {after} h e = ap (λ y. outcome y after) (answer-is z h refl) ∙ e

-- what came, held to the most frames, where there are no more of them
pub held-is : (came : Result ℕ Refusal) → ((count : ℕ) → came ≡ Ok count → count ≤ most_frames) → held came ≡ came
held-is (Ok count) few = ap (λ (n : ℕ). Ok n) (let l : count ≤ most_frames = few count refl in omega arith)
held-is (Err refusal) few = refl

-- and so is the answer of what came
pub answer-held : (z : ℤ) (came : Result ℕ Refusal) → mag z < 2 ^ 31 → z ≡ answer_of (held came) → ((count : ℕ) → came ≡ Ok count → count ≤ most_frames)
    → to_z w32 (of_z w32 z) ≡ answer_of came
answer-held z came h e few = answer-is z h (e ∙ ap answer_of (held-is came few))
