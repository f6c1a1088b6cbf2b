-- What the clauses of the receivers' promises give for cards P and T. The session is of any kind x.
use Prim.Native.Nat.{ℕ}
use mathlib.Core.Path.{◌≡◌, sym, ap, ◌∙◌, subst}
use mathlib.Core.List.{List}
use native.Mathlib.Omega.{arith}
use lib.ListN.{get_or, take, replicate}
use Rattle.std.specs.Prelude.{Option, Some, None, Result, Ok, Err}
use Rattle.code.specs.declared.Card.{Card}
use Rattle.card.specs.Bench.{card_p}
use Rattle.card.specs.Outcome.{Outcome, outcome_of, CardOutcome}
use Rattle.card.specs.Outcome.Outcome.{accepted}
use Rattle.card.specs.Reading.{read_card}
use Rattle.card.specs.declared.CardRule.TheVariants.{Present}
use Rattle.card.specs.declared.Opened.{Opened}
use Rattle.card.specs.declared.Refusal.{Refusal}
use Rattle.card.proofs.RefusedCard.{refused-card}
use Rattle.receiving.specs.Answers.{waiting, frame, answer_of, published, Reply}
use Rattle.receiving.specs.Calls.{number_in, reply_of, answers, session_after}
use Rattle.receiving.specs.Example.{one, calls_p_first, calls_p}
use Rattle.receiving.specs.Opening.{counted_at, Opens}
use Rattle.receiving.specs.Receive.{Circuit, open_of, refused_of, receive_byte_of, receive_readings_of}
use Rattle.outcomes.proofs.ReadCards.{read-short-P}
use Rattle.clients.specs.Closed.{ReceivesNothing}

-- ---- opened with an accepted card
module _ {S : Type 0} {x : Circuit S} {Claims : Card → S → Type 0} {bytes : List ℕ} {c : Card} (read : read_card bytes ≡ record { outcome = accepted; card = c })
    {outcome : Outcome} {s : S} (promise : Opens x Claims bytes outcome s) where
  pub opened : outcome ≡ accepted
  opened = promise.verdict_is ∙ ap (λ (r : CardOutcome). r.outcome) read

  -- what follows from the claims of the session before its first frame
  pub follows : {Row : S → Type 0} → ((s : S) → s ≡ open_of x c → Claims c s → Row s) → Row s
  unfolding counted_at open_of
  follows row =
      row s (promise.session_is ∙ ap (λ (r : CardOutcome). x.fresh r.card (counted_at r.outcome)) read)
      (subst (λ (c : Card). Claims c s) (ap (λ (r : CardOutcome). r.card) read) (promise.claims opened))

-- ---- and with the first 19 bytes of P
module _ {S : Type 0} {x : Circuit S} {Claims : Card → S → Type 0} (carded : (c : Card) (n : ℕ) → x.card (x.fresh c n) ≡ c)
    {r : Opened S} (promise : Opens x Claims (take 19 card_p) (outcome_of r.verdict) r.session) where
  pub receives-nothing : ReceivesNothing x r
  unfolding number_in refused_of
  receives-nothing =
      let e = promise.verdict_is ∙ read-short-P in
      let shut = promise.shut 1 19 e in
      let number : (x.card r.session).number ≡ 0 =
      ap (λ (s : S). (x.card s).number) promise.session_is ∙ ap (λ (c : Card). c.number) (carded _ _ ∙ refused-card Present (take 19 card_p) read-short-P) in
      record { verdict = e; other_number = shut.other_refused _ (λ q. omega arith); no_room = shut.own_refused _ (sym number) }

-- ---- a byte and then readings, each a call of its own
frame-is : (r : Result (Option ℕ) Refusal) {f : ℕ} → answer_of r ≡ frame f → r ≡ Ok (Some f)
frame-is (Ok (Some f)) e = cc
frame-is (Ok None) e = cc
frame-is (Err refusal) e = cc

waiting-is : (r : Result (Option ℕ) Refusal) → answer_of r ≡ waiting → r ≡ Ok None
waiting-is (Ok (Some f)) e = cc
waiting-is (Ok None) e = cc
waiting-is (Err refusal) e = cc

module _ {S : Type 0} (x : Circuit S) (s : S) {t : S} (first : Result (Option ℕ) Refusal) (a : published first t ≡ receive_byte_of x s 7 3) where
  pub waits : get_or (answers x s calls_p) 0 waiting ≡ waiting → first ≡ Ok None
  unfolding answers reply_of
  waits given = waiting-is first (ap (λ (r : Reply S). r.answer) a ∙ given)

  module _ {u : S} (second : Result (Option ℕ) Refusal) (b : published second u ≡ receive_readings_of x t 7 (replicate 8 one)) where
    pub hands-out : {f : ℕ} → get_or (answers x s calls_p) 1 waiting ≡ frame f → second ≡ Ok (Some f)
    unfolding answers reply_of
    hands-out given =
        frame-is second
        (ap (λ (r : Reply S). r.answer) b ∙ ap (λ (r : Reply S). (receive_readings_of x r.session 7 (replicate 8 one)).answer) a ∙ given)

    pub after-both : u ≡ session_after x s calls_p_first
    unfolding session_after reply_of
    after-both = ap (λ (r : Reply S). r.session) b ∙ ap (λ (r : Reply S). (receive_readings_of x r.session 7 (replicate 8 one)).session) a
