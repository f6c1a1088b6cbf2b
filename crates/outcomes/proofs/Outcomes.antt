-- What a burst comes to, from its answer and its bytes; what given bytes, and sending, come to under each condition.
use Prim.Native.Nat.{ℕ, zero, suc, ◌+◌, ◌≤◌, ◌<◌}
use mathlib.Core.Path.{◌≡◌, sym, ap, ap₂, ◌∙◌}
use mathlib.Core.Bool.{true, false}
use mathlib.Core.List.{List, ◌++◌}
use mathlib.Core.Logic.{⊎_elim}
use native.Mathlib.Omega.{arith}
use lib.ListN.{length, take, drop}
use lib.Seq.{take_at}
use lib.IntN.{ℤ, pos, neg_ℤ, pos-ne-negsuc}
use lib.Signed.{mag}
use borrow.Author.Tests.{lt-ltb, le-ltb}
use Rattle.std.specs.Prelude.{Result}
use Rattle.bits.specs.Digits.{any_beyond}
use Rattle.bits.proofs.Cases.{le-or-lt}
use Rattle.code.specs.Code.{most_frames, sent}
use Rattle.card.specs.Outcome.{Outcome, accepted, refused, outcome_of, card_in, CardOutcome}
use Rattle.card.specs.Promise.{CardPromise}
use Rattle.card.specs.Reading.{read_card}
use Rattle.code.specs.declared.Card.{Card}
use Rattle.card.specs.declared.Fault.{Fault}
use Rattle.card.specs.declared.CardRule.TheVariants.{Present}
use Rattle.code.proofs.Sent.{sent-length}
use Rattle.outcomes.specs.Outcome.{BurstOutcome, outcome, refused_of, given_of, with_room, fitted, under_card}
use Rattle.outcomes.specs.Sending.{send_under}

pub refused-is : {answer : ℤ} (n : ℕ) (output : List ℕ) → answer ≡ neg_ℤ (pos n) → outcome answer output ≡ refused_of n output
unfolding refused_of
refused-is n output e = ap (λ (z : ℤ). outcome z output) e

pub given_is : {answer : ℤ} {after : List ℕ} (count : ℕ) (frames output : List ℕ) → length frames ≡ count → answer ≡ pos count → after ≡ frames ++ drop count output
    → outcome answer after ≡ given_of frames output
unfolding given_of
given_is count frames output q e a =
    ap₂ outcome e a ∙ ap (λ (n : ℕ). outcome (pos n) (frames ++ drop n output)) (sym q)

-- a refusal is no count above zero
pub no-refusal : (n count : ℕ) → 0 < count → neg_ℤ (pos n) ≡ pos count → ⊥
no-refusal zero count h e = let z : 0 ≡ count = ap mag e in omega arith
no-refusal (suc n) count h e = pos-ne-negsuc count n (sym e)

-- ---- bytes for which the output may be too short
module _ (bytes output : List ℕ) where
  pub fitted_short : length output < length bytes → fitted bytes output ≡ refused_of 13 output
  unfolding with_room fitted
  fitted_short l = rw (lt-ltb (length output) (length bytes) l)

  pub fitted-given : length bytes ≤ length output → fitted bytes output ≡ given_of bytes output
  unfolding with_room fitted
  fitted-given l = rw (le-ltb (length output) (length bytes) l)

  -- a count that is answered is that of the bytes, which stand in the output
  module _ {n : ℕ} {after : List ℕ} (e : outcome (pos n) after ≡ fitted bytes output) where
    answered : outcome (pos n) after ≡ given_of bytes output
    unfolding refused_of
    answered =
        ⊎_elim (λ l. e ∙ fitted-given l) (λ l. absurd (pos-ne-negsuc n 12 (ap (λ (b : BurstOutcome). b.answer) (e ∙ fitted_short l))))
        (le-or-lt (length bytes) (length output))

    pub count_is : n ≡ length bytes
    unfolding given_of
    count_is = ap (λ (b : BurstOutcome). mag b.answer) answered

    pub front-is : take n after ≡ bytes
    unfolding given_of
    front-is =
        ap (λ (b : BurstOutcome). take n b.output) answered
        ∙ take_at bytes (drop (length bytes) output) n (sym count_is)

-- ---- sending
module _ (c : Card) (input output : List ℕ) where
  pub under-full : most_frames < length input + c.m → send_under c input output ≡ refused_of 15 output
  unfolding send_under
  under-full l = rw (sent-length c input, lt-ltb most_frames (length input + c.m) l)

  module _ (r : length input + c.m ≤ most_frames) where
    pub under-short : length output < length input + c.m → send_under c input output ≡ refused_of 13 output
    unfolding with_room send_under
    under-short l = rw (sent-length c input, le-ltb most_frames (length input + c.m) r, lt-ltb (length output) (length input + c.m) l)

    module _ (o : length input + c.m ≤ length output) where
      pub under-beyond : any_beyond c.k input ≡ true → send_under c input output ≡ refused_of 11 output
      unfolding with_room send_under
      under-beyond b = rw (sent-length c input, le-ltb most_frames (length input + c.m) r, le-ltb (length output) (length input + c.m) o, b)

      pub under-sent : any_beyond c.k input ≡ false → send_under c input output ≡ given_of (sent c input) output
      unfolding with_room send_under
      under-sent b = rw (sent-length c input, le-ltb most_frames (length input + c.m) r, le-ltb (length output) (length input + c.m) o, b)

-- ---- with the card's bytes, whatever the call comes to under a card
module _ (bytes : List ℕ) (read : Result Card Fault) (promise : CardPromise Present bytes read) (under : Card → BurstOutcome) (output : List ℕ) where
  pub by_card : {burst : BurstOutcome} → outcome_of read ≡ accepted → burst ≡ under (card_in read)
      → burst ≡ under_card (read_card bytes).outcome (under (read_card bytes).card) output
  unfolding under_card
  by_card e q =
      q ∙ ap (λ (o : Outcome). under_card o (under (card_in read)) output) (sym e)
      ∙ ap (λ (r : CardOutcome). under_card r.outcome (under r.card) output) promise.is_read

  pub refused-by_card : {answer : ℤ} {n at : ℕ} → outcome_of read ≡ refused n at → answer ≡ neg_ℤ (pos n)
      → outcome answer output ≡ under_card (read_card bytes).outcome (under (read_card bytes).card) output
  unfolding under_card
  refused-by_card {n = n} e q =
      refused-is n output q
      ∙ ap (λ (o : Outcome). under_card o (under (read_card bytes).card) output) (sym e ∙ ap (λ (r : CardOutcome). r.outcome) promise.is_read)
