-- What writing a card comes to: under each condition, and from what was laid out in no room, which counts the bytes, and in the output.
use Prim.Native.Nat.{ℕ, ◌-◌, ◌^◌, ◌≤◌, ◌<◌, min}
use mathlib.Core.Path.{◌≡◌, refl, sym, ap, ◌∙◌}
use mathlib.Core.List.{List, ◌++◌}
use native.Mathlib.Omega.{arith}
use lib.ListN.{length, drop, length-append}
use lib.IntN.{pos, neg_ℤ}
use Rattle.std.specs.Prelude.{Err}
use Rattle.code.specs.declared.Card.{Card}
use Rattle.card.specs.Layout.{layout_head, layout_rows, layout_streams, layout}
use Rattle.card.specs.Outcome.{Outcome, CardOutcome}
use Rattle.card.specs.Outcome.Outcome.{refused}
use Rattle.card.specs.Reading.{read_card}
use Rattle.card.specs.Refusals.{number_of}
use Rattle.card.specs.declared.Refusal.{Refusal}
use Rattle.card.proofs.CardLength.{head-size}
use Rattle.outcomes.specs.Outcome.{BurstOutcome, outcome, answer_of, refused_of, given_of, under_card}
use Rattle.outcomes.proofs.Outcomes.{no-refusal, refused-is, given_is, fitted_short, fitted-given}
use Rattle.card.specs.Written.{fields_of, written}
use Rattle.writer.specs.Outcome.{write_under, write_of}
use Rattle.writer.specs.Claims.{ReadsAs}

-- ---- with the card's bytes
module _ (card output : List ℕ) where
  -- whatever room there is, none too
  pub write-refused : {n at : ℕ} → (read_card card).outcome ≡ refused n at → write_of card output ≡ refused_of n output
  unfolding write_of under_card
  write-refused e = ap (λ (o : Outcome). under_card o (write_under (read_card card).card output) output) e

  pub write-accepted : {c : Card} → ReadsAs card c → write_of card output ≡ write_under c output
  unfolding write_of under_card
  write-accepted e = ap (λ (r : CardOutcome). under_card r.outcome (write_under r.card output) output) e

-- ---- a card
written-some : (c : Card) → 0 < length (written c)
unfolding written layout
written-some c =
    let f = fields_of c in
    omega (arith, length-append (layout_head f.head) (layout_rows f.rows ++ layout_streams f.streams), head-size f.head)

module _ (c : Card) (output : List ℕ) where
  pub write-short : length output < length (written c) → write_under c output ≡ refused_of 13 output
  unfolding write_under
  write-short = fitted_short (written c) output

  pub write-given : length (written c) ≤ length output → write_under c output ≡ given_of (written c) output
  unfolding write_under
  write-given = fitted-given (written c) output

  -- no call with room enough is refused
  pub never-refused : (refusal : Refusal) {after : List ℕ} → length (written c) ≤ length output → outcome (answer_of (Err refusal)) after ≡ write_under c output
      → ⊥
  unfolding given_of
  never-refused refusal l e =
      no-refusal (number_of refusal) (length (written c)) (written-some c) (ap (λ (b : BurstOutcome). b.answer) (e ∙ write-given l))

-- ---- what was laid out: the count, and the bytes where there is room
module _ (c : Card) (output : List ℕ) {count : ℕ} (e : count ≡ min (length (written c)) (2 ^ 64 - 1)) where
  pub answer-short : length output < count → outcome (neg_ℤ (pos 13)) output ≡ write_under c output
  answer-short l = refused-is 13 output refl ∙ sym (write-short c output (omega arith))

  pub answer-count : {after : List ℕ} → length output < 2 ^ 63 → count ≤ length output
      → (length (written c) ≤ length output → after ≡ written c ++ drop (length (written c)) output) → outcome (pos count) after ≡ write_under c output
  answer-count {after} most l front =
      let room : length (written c) ≤ length output = omega arith in
      let all : length (written c) ≡ count = omega arith in
      given_is count (written c) output all refl (front room ∙ ap (λ (n : ℕ). written c ++ drop n output) all)
      ∙ sym (write-given c output room)
