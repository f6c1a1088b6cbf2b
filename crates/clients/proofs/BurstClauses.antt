-- What the clauses of the burst calls' promises give for card P.
use Prim.Native.Nat.{ℕ}
use mathlib.Core.Path.{◌≡◌, refl, sym, ap, ◌∙◌, subst}
use mathlib.Core.List.{List, [], ◌∷◌}
use native.Mathlib.Omega.{arith}
use lib.ListN.{length, drop}
use lib.Seq.{take_all}
use lib.IntN.{ℤ, pos, neg_ℤ}
use Rattle.bits.specs.Sums.{sum_below, up_to, back, grown}
use Rattle.bits.specs.Digits.{bit, from_digits, any_beyond}
use Rattle.code.specs.Bench.{P}
use Rattle.code.specs.Code.{generator, digit, parity_at, with_tail, sent_digit, sent_frame, sent}
use Rattle.code.specs.Checks.{count, check_mask, touches_info, touches_by, besides}
use Rattle.code.specs.Judging.{clashes}
use Rattle.code.specs.declared.Card.{Card}
use Rattle.card.specs.Bench.{card_p}
use Rattle.card.specs.Outcome.{CardOutcome}
use Rattle.card.specs.Reading.{read_card}
use Rattle.majority.specs.Rule.{syndrome, cleared, check_at, voting, voters, votes, decide, decide_frame, decided, corrected, decoded}
use Rattle.outcomes.specs.Outcome.{outcome, refused_of, given_of, under_card}
use Rattle.outcomes.specs.Sending.{send_under, send_of}
use Rattle.outcomes.specs.Receiving.{receive_under, receive_of}
use Rattle.outcomes.specs.Claims.{SentAs, ComesOutAsSent}
use Rattle.outcomes.proofs.Outcomes.{under-sent}
use Rattle.outcomes.proofs.Received.{receive-short, receive-given}
use Rattle.outcomes.proofs.Edges.{edges}
use Rattle.outcomes.proofs.Admissions.{admitted-P}
use Rattle.outcomes.proofs.ReadCards.{read-P}

card-P : P ≡ (read_card card_p).card
card-P = sym (ap (λ (read : CardOutcome). read.card) read-P)

-- ---- under the card that P's bytes are read as
module _ (input output : List ℕ) where
  received-P : receive_of card_p input output ≡ receive_under P input output
  unfolding receive_of under_card
  received-P = ap (λ (read : CardOutcome). under_card read.outcome (receive_under read.card input output) output) read-P

  sent-P : send_of card_p input output ≡ send_under P input output
  unfolding send_of under_card
  sent-P = ap (λ (read : CardOutcome). under_card read.outcome (send_under read.card input output) output) read-P

abbrev one_wrong : List ℕ
one_wrong = 3 ∷ 3 ∷ 3 ∷ 2 ∷ []

pub comes_out : (output : List ℕ) → length output ≡ 3 → (r : ℤ) (after : List ℕ) → length after ≡ 3 → ComesOutAsSent card_p one_wrong output r after
    → (r ≡ pos 3) × (after ≡ 1 ∷ 0 ∷ 1 ∷ [])
unfolding any_beyond
comes_out output room r after filled claim =
    let info : List ℕ = 1 ∷ 0 ∷ 1 ∷ [] in
    let came = claim info (admitted-P one_wrong output (omega arith) (omega arith) refl) (subst (λ (c : Card). SentAs c info one_wrong) card-P edges.p_one) in
    (came.count, sym (take_all 3 after (omega arith)) ∙ came.frames)

pub receives : (output : List ℕ) → length output ≡ 5 → receive_of card_p (2 ∷ 2 ∷ 0 ∷ 0 ∷ []) output ≡ outcome (pos 3) (1 ∷ 0 ∷ 0 ∷ drop 3 output)
unfolding sum_below up_to back grown bit from_digits any_beyond generator digit parity_at count check_mask touches_info touches_by besides clashes syndrome cleared check_at voting voters votes decide decide_frame decided corrected decoded given_of
receives output room =
    let input : List ℕ = 2 ∷ 2 ∷ 0 ∷ 0 ∷ [] in
    received-P input output ∙ receive-given P input output (omega arith) (omega arith) refl

pub finds-no_room : (output : List ℕ) → length output ≡ 2 → receive_of card_p one_wrong output ≡ outcome (neg_ℤ (pos 13)) output
unfolding refused_of
finds-no_room output room = received-P one_wrong output ∙ receive-short P one_wrong output (omega arith) (omega arith)

pub sends : (output : List ℕ) → length output ≡ 6 → send_of card_p (1 ∷ 0 ∷ 1 ∷ []) output ≡ outcome (pos 4) (3 ∷ 2 ∷ 3 ∷ 2 ∷ drop 4 output)
unfolding sum_below up_to back bit from_digits any_beyond generator digit parity_at with_tail sent_digit sent_frame sent given_of
sends output room =
    let info : List ℕ = 1 ∷ 0 ∷ 1 ∷ [] in
    sent-P info output ∙ under-sent P info output (omega arith) (omega arith) refl
