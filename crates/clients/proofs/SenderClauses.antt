-- What the clauses of the sender's promises give for card P.
use Prim.Native.Nat.{ℕ}
use mathlib.Core.Path.{◌≡◌, ap, ◌∙◌, subst}
use lib.ListN.{take}
use Rattle.bits.specs.Sums.{sum_below, up_to, put_first}
use Rattle.bits.specs.Digits.{bit, from_digits, dot}
use Rattle.std.specs.Prelude.{Result, Ok, Err}
use Rattle.code.specs.Bench.{P}
use Rattle.code.specs.Registers.{generator_mask, shift_in, history_by, parity_by, digit_by, frame_by}
use Rattle.code.specs.declared.Card.{Card}
use Rattle.card.specs.Bench.{card_p}
use Rattle.card.specs.Outcome as card
use Rattle.card.specs.Outcome.{CardOutcome}
use Rattle.card.specs.Outcome.Outcome.{accepted}
use Rattle.encoder.specs.Outcome.{frame, outcome_of, published, SendOutcome}
use Rattle.encoder.specs.Claims.{Claims}
use Rattle.encoder.specs.Opening.{session_for, OpenPromise}
use Rattle.encoder.specs.Sending.{open_of, refused_of, history_next, frame_next, encoded_of, send_of, send_tail_of}
use Rattle.encoder.specs.Example.{SendsP}
use Rattle.card.specs.declared.Opened.{Opened}
use Rattle.card.specs.declared.Refusal.{Refusal}
use Rattle.encoder.specs.declared.Session.{Session}
use Rattle.encoder.proofs.Example.{sends-P}
use Rattle.clients.specs.Closed.{SendsNothing}
use Rattle.outcomes.proofs.ReadCards.{read-P, read-short-P}

given-is : (r : Result ℕ Refusal) {f : ℕ} → outcome_of r ≡ frame f → r ≡ Ok f
given-is (Ok f) e = cc
given-is (Err refusal) e = cc

module _ (r : Opened Session) (promise : OpenPromise card_p r) where
  pub opened : card.outcome_of r.verdict ≡ accepted
  opened = promise.verdict_is ∙ ap (λ (read : CardOutcome). read.outcome) read-P

  own : r.session ≡ open_of P
  unfolding session_for
  own = promise.session_is ∙ ap (λ (read : CardOutcome). session_for read.outcome read.card) read-P

  pub sends : SendsP r.session
  sends = sends-P r.session own (subst (λ (c : Card). Claims c r.session) (ap (λ (read : CardOutcome). read.card) read-P) (promise.claims opened))

  -- the information 1, and then the tail's first frame, each a call of its own
  module _ (first : Result ℕ Refusal) {s : Session} (a : published first s ≡ send_of r.session 1) where
    sent : published first s ≡ send_of (open_of P) 1
    sent = a ∙ ap (λ (s : Session). send_of s 1) own

    pub is-sent : first ≡ Ok 3
    unfolding sum_below up_to put_first bit from_digits dot generator_mask shift_in history_by parity_by digit_by frame_by open_of history_next frame_next encoded_of send_of
    is-sent = given-is first (ap (λ (x : SendOutcome). x.outcome) sent)

    pub tail-after : (second : Result ℕ Refusal) {t : Session} → published second t ≡ send_tail_of s → second ≡ Ok 2
    unfolding sum_below up_to put_first bit from_digits dot generator_mask shift_in history_by parity_by digit_by frame_by open_of history_next frame_next encoded_of send_of send_tail_of
    tail-after second b = given-is second (ap (λ (x : SendOutcome). x.outcome) b ∙ ap (λ (x : SendOutcome). (send_tail_of x.session).outcome) sent)

pub sends-nothing : (r : Opened Session) → OpenPromise (take 19 card_p) r → SendsNothing r
unfolding refused_of
sends-nothing r promise =
    let e = promise.verdict_is ∙ read-short-P in
    let shut = promise.shut 1 19 e in
    record { verdict = e; no_room = shut.information_refused 1; no_tail = shut.tail_refused }
