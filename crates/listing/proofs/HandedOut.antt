-- What the burst receiver gives where it meets no refusal: the rule's frames.
use Prim.Native.Nat.{ℕ, ◌+◌, ◌≤◌}
use mathlib.Core.Path.{◌≡◌, ap, subst, ◌∙◌}
use mathlib.Core.Bool.{false}
use mathlib.Core.List.{List}
use native.Mathlib.Omega.{arith}
use lib.ListN.{length, take}
use lib.IntN.{ℤ, pos}
use Rattle.bits.specs.Digits.{any_beyond}
use Rattle.card.specs.Outcome.{Outcome}
use Rattle.card.specs.Reading.{read_card}
use Rattle.code.specs.Code.{most_frames}
use Rattle.code.specs.declared.Card.{Card}
use Rattle.majority.specs.Plain.{decoded}
use Rattle.majority.proofs.Plain.{decoded-length}
use Rattle.outcomes.specs.Claims.{Admitted}
use Rattle.outcomes.specs.Outcome.{BurstOutcome, outcome, given_of, under_card}
use Rattle.outcomes.specs.Receiving.{receive_under, receive_of}
use Rattle.outcomes.proofs.Received.{receive-given}
use Rattle.listing.specs.AtFront.{AtFront}
use Rattle.listing.specs.Written.{ReadAs}
use Rattle.listing.proofs.AtFront.{front-is}

module _ (card frames buffer : List ℕ) (A : Admitted card frames buffer) where
  given : receive_of card frames buffer ≡ given_of (decoded (read_card card).card frames) buffer
  unfolding receive_of under_card
  given =
      ap (λ (o : Outcome). under_card o (receive_under (read_card card).card frames buffer) buffer) A.card_accepted
      ∙ receive-given (read_card card).card frames buffer A.few_enough A.output_long_enough A.within_streams

  pub count_most : length (decoded (read_card card).card frames) ≤ most_frames
  count_most = omega (arith, A.few_enough, decoded-length (read_card card).card frames)

  module _ {answer : ℤ} {after : List ℕ} (e : outcome answer after ≡ receive_of card frames buffer) where
    pub answer-count : answer ≡ pos (length (decoded (read_card card).card frames))
    unfolding given_of
    answer-count = ap (λ (b : BurstOutcome). b.answer) (e ∙ given)

    pub hands_out : {count : ℕ} → count ≡ length (decoded (read_card card).card frames)
        → AtFront most_frames (decoded (read_card card).card frames) buffer count after
    unfolding given_of
    hands_out n = record { count_is = n; bytes_are = ap (λ (b : BurstOutcome). b.output) (e ∙ given); within = omega (arith, count_most) }

-- ---- an accepted card and frames within its streams, of which the buffer has room for all
pub admitted : {bytes : List ℕ} {c : Card} (frames buffer : List ℕ) → ReadAs bytes c → any_beyond (c.k + c.p) frames ≡ false → length frames ≤ 32768
    → 32768 ≤ length buffer → Admitted bytes frames buffer
admitted frames buffer R w few room =
    record {
      card_accepted = R.card_accepted;
      few_enough = omega arith;
      output_long_enough = omega arith;
      within_streams = subst (λ (x : Card). any_beyond (x.k + x.p) frames ≡ false) R.card_is w;
    }

pub handed-few : {buffer after : List ℕ} {count room : ℕ} (c : Card) (frames : List ℕ) → AtFront room (decoded c frames) buffer count after → length frames ≤ 32768
    → length (take count after) ≤ 32768
handed-few c frames H few = omega (arith, ap length (front-is H), decoded-length c frames)
