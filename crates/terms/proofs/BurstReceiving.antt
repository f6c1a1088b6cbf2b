-- A received burst, by the page.
use Prim.Native.Nat.{ℕ, suc, ◌+◌, ◌-◌, ◌^◌, ◌<◌}
use mathlib.Core.Path.{◌≡◌, refl, ◌∙◌}
use mathlib.Core.Bool.{false, cond}
use mathlib.Core.List.{List, [], ◌∷◌}
use lib.ListN.{length, get_or}
use lib.Dec.{ltb}
use lib.IntN.{ℤ}
use borrow.Author.Tests.{lt-leb}
use Rattle.bits.specs.Digits.{any_beyond}
use Rattle.code.specs.Code.{most_frames}
use Rattle.code.specs.declared.Card.{Card}
use Rattle.card.specs.Promise.{CardPromise}
use Rattle.card.specs.Reading.{read_card}
use Rattle.std.specs.Prelude.{Result}
use Rattle.card.specs.declared.Fault.{Fault}
use Rattle.card.specs.declared.CardRule.TheVariants.{Present}
use Rattle.majority.specs.Rule as rule
use Rattle.majority.specs.Plain.{decoded}
use Rattle.majority.proofs.Plain.{decoded-length, none-erased}
use Rattle.outcomes.specs.Claims.{ComesOutAsSent}
use Rattle.outcomes.specs.Outcome.{outcome, refused_of, given_of, with_room}
use Rattle.outcomes.specs.Receiving.{receive_under, receive_of}
use Rattle.outcomes.proofs.Received.{guaranteed}
use Rattle.terms.specs.Terms.{beyond, BurstReceived}
use Rattle.terms.proofs.Rule.{decided-is, few-of-checks}
use Rattle.terms.proofs.Told.{beyond-is, told-first, card_refused, card_accepted}

none-beyond : (n : ℕ) (frames : List ℕ) → ((u : ℕ) → get_or frames u 0 < 2 ^ n) → any_beyond n frames ≡ false
unfolding any_beyond
none-beyond n [] small = refl
none-beyond n (f ∷ frames) small = rw (lt-leb (2 ^ n) f (small 0)) (none-beyond n frames (λ u. small (suc u)))

under-card : (c : Card) (input output : List ℕ)
    → receive_under c input output
    ≡ cond (ltb most_frames (length input)) (refused_of 15 output)
    (cond (ltb (length output) (length input - c.m)) (refused_of 13 output) (cond (beyond (c.k + c.p) input) (refused_of 11 output) (given_of (decoded c input) output)))
unfolding receive_under with_room
under-card c input output = rw (beyond-is, decoded-length c input)

module _ (card input output : List ℕ) (answer : ℤ) (after : List ℕ) (read : Result Card Fault) (card-promise : CardPromise Present card read)
    (is : outcome answer after ≡ receive_of card input output) (as-sent : ComesOutAsSent card input output answer after) where
  pub burst-received : BurstReceived (read_card card) input output answer after
  unfolding receive_of rule.decoded rule.corrected
  burst-received =
      record {
        errors = rule.decided (read_card card).card input [] _;
        decided = decided-is (read_card card).card input [];
        by_card = record {
          card_refused = card_refused output (read_card card).outcome _ is;
          told = λ e.
              let c = (read_card card).card in
              told-first output (decoded c input) (ltb 1048576 (length input)) (ltb (length output) (length input - c.m)) (beyond (c.k + c.p) input)
              (card_accepted output (read_card card).outcome _ is e ∙ under-card c input output);
        };
        comes_out_as_sent = λ info e few_enough room within whole few.
            let c = (read_card card).card in
            let came = as-sent info
            (record { card_accepted = e; few_enough = few_enough; output_long_enough = room; within_streams = none-beyond (c.k + c.p) input within })
            (record {
              information = whole.0;
              whole = whole.1;
              correctable = few-of-checks c info input (guaranteed card read card-promise e) [] (none-erased c) few;
            }) in
            (came.count, came.frames);
      }
