-- What receiving a burst comes to under each condition, and that a correctable burst comes out as sent.
use Prim.Native.Nat.{ℕ, ◌+◌, ◌-◌, ◌≤◌, ◌<◌}
use mathlib.Core.Path.{◌≡◌, refl, ap, ◌∙◌, subst}
use mathlib.Core.Bool.{true, false}
use mathlib.Core.List.{List}
use native.Mathlib.Omega.{arith}
use lib.ListN.{length, drop, take}
use lib.Seq.{take_at}
use lib.IntN.{ℤ}
use borrow.Author.Tests.{lt-ltb, le-ltb}
use Rattle.std.specs.Prelude.{Result}
use Rattle.bits.specs.Digits.{any_beyond}
use Rattle.code.specs.Code.{most_frames}
use Rattle.code.specs.Guarantees.{Guarantees}
use Rattle.card.specs.Outcome.{Outcome, accepted, CardOutcome}
use Rattle.card.specs.Promise.{CardPromise}
use Rattle.card.specs.Reading.{read_card}
use Rattle.code.specs.declared.Card.{Card}
use Rattle.card.specs.declared.Fault.{Fault}
use Rattle.card.specs.declared.CardRule.TheVariants.{Present}
use Rattle.majority.specs.Plain.{decoded}
use Rattle.majority.proofs.Plain.{decoded-length}
use Rattle.majority.proofs.Plain.{decoded-as-sent}
use Rattle.outcomes.specs.Outcome.{BurstOutcome, outcome, refused_of, given_of, with_room, under_card}
use Rattle.outcomes.specs.Receiving.{receive_under, receive_of}
use Rattle.outcomes.specs.Claims.{Admitted, CameOut, ComesOutAsSent}

module _ (c : Card) (input output : List ℕ) where
  pub receive-full : most_frames < length input → receive_under c input output ≡ refused_of 15 output
  unfolding receive_under
  receive-full l = rw (lt-ltb most_frames (length input) l)

  module _ (r : length input ≤ most_frames) where
    pub receive-short : length output < length input - c.m → receive_under c input output ≡ refused_of 13 output
    unfolding with_room receive_under
    receive-short l = rw (le-ltb most_frames (length input) r, decoded-length c input, lt-ltb (length output) (length input - c.m) l)

    module _ (o : length input - c.m ≤ length output) where
      pub receive-beyond : any_beyond (c.k + c.p) input ≡ true → receive_under c input output ≡ refused_of 11 output
      unfolding with_room receive_under
      receive-beyond b = rw (le-ltb most_frames (length input) r, decoded-length c input, le-ltb (length output) (length input - c.m) o, b)

      pub receive-given : any_beyond (c.k + c.p) input ≡ false → receive_under c input output ≡ given_of (decoded c input) output
      unfolding with_room receive_under
      receive-given b = rw (le-ltb most_frames (length input) r, decoded-length c input, le-ltb (length output) (length input - c.m) o, b)

-- ---- with the card's bytes

-- what an accepted card guarantees, of the card by definition
pub guaranteed : (bytes : List ℕ) (read : Result Card Fault) → CardPromise Present bytes read → (read_card bytes).outcome ≡ accepted → Guarantees (read_card bytes).card
guaranteed bytes read promise e =
    subst Guarantees (ap (λ (r : CardOutcome). r.card) promise.is_read) (promise.guaranteed (ap (λ (r : CardOutcome). r.outcome) promise.is_read ∙ e))

-- a burst that meets no refusal hands out the rule's frames
admitted-given : (card input output : List ℕ) → Admitted card input output → receive_of card input output ≡ given_of (decoded (read_card card).card input) output
unfolding receive_of under_card
admitted-given card input output A =
    ap (λ (o : Outcome). under_card o (receive_under (read_card card).card input output) output) A.card_accepted
    ∙ receive-given (read_card card).card input output A.few_enough (omega arith) A.within_streams

given-came-out : (frames output : List ℕ) {answer : ℤ} {after : List ℕ} → outcome answer after ≡ given_of frames output → CameOut frames answer after
unfolding given_of
given-came-out frames output e =
    record {
      count = ap (λ (b : BurstOutcome). b.answer) e;
      frames = ap (λ (b : BurstOutcome). take (length frames) b.output) e ∙ take_at frames (drop (length frames) output) (length frames) refl;
    }

-- the third term for a burst
pub comes_out_as_sent : (bytes : List ℕ) (read : Result Card Fault) → CardPromise Present bytes read → (input output : List ℕ) {answer : ℤ} {after : List ℕ}
    → outcome answer after ≡ receive_of bytes input output → ComesOutAsSent bytes input output answer after
comes_out_as_sent bytes read promise input output e info A S =
    let c = (read_card bytes).card in
    let G = guaranteed bytes read promise A.card_accepted in
    given-came-out info output
    (e ∙ admitted-given bytes input output A
    ∙ ap (λ (l : List ℕ). given_of l output) (decoded-as-sent c G info input S.information (omega arith) S.correctable))

-- both clauses of the promise
pub received : (bytes : List ℕ) (read : Result Card Fault) → CardPromise Present bytes read → (input output : List ℕ) {answer : ℤ} {after : List ℕ}
    → outcome answer after ≡ receive_of bytes input output
    → (outcome answer after ≡ receive_of bytes input output) × ComesOutAsSent bytes input output answer after
received bytes read promise input output e = (e, comes_out_as_sent bytes read promise input output e)
