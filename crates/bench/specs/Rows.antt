-- The starred cases of document 01, "Cards on the bench": "shown to follow from the definitions, as rows under one theorem" (Terms for each
-- promise, 4). A field is a row, in the document's words. Where it gives no offset, that of the check's map byte is added here. Rows at the edges
-- of document 02's requests stand at the end.
-- Assumes nothing.
use Rattle.std.specs.Prelude.{◌+◌, ◌≡◌, [], ◌∷◌, ◌++◌, pos, take}
use Rattle.code.specs.Code.{sent}
use Rattle.card.specs.Outcome.Outcome.{accepted, refused}
use Rattle.card.specs.Reading.{read_under, read_card}
use Rattle.card.specs.declared.CardRule.TheVariants.{Former}
use Rattle.majority.specs.Erased.{ErasedRows}
use Rattle.majority.specs.Plain.{decoded}
use Rattle.majority.specs.Rule as Rule
use Rattle.receiving.specs.Answers.{waiting}
use Rattle.receiving.specs.Calls.{answers_by}
use Rattle.receiving.specs.LevelRows.{LevelRows}
use Rattle.outcomes.specs.Receiving.{receive_of}
use Rattle.code.specs.Bench.{s}
use Rattle.card.specs.Bench.{card_p, k_stated_p, n_stated_p, stored_p, card_q, card_r, card_t, card_many, stored_many}

pub record Rows : Type 0 where
  -- P and Q, which the other rows change; an own digit that is not excepted would refuse both
  pub p_is_accepted : (read_card card_p).outcome ≡ accepted
  pub q_is_accepted : (read_card (card_q (s 0 ∷ s 1 ∷ s 3 ∷ []))).outcome ≡ accepted
  -- "R is accepted." Errors of times before u, counted as touched, would refuse it
  pub r_is_accepted : (read_card (card_r (s 0 ∷ s 3 ∷ s 4 ∷ (s 1 + s 5) ∷ []))).outcome ≡ accepted
  -- "With s5 for s1 + s5 it is refused, 9."
  pub r_with_s5 : (read_card (card_r (s 0 ∷ s 3 ∷ s 4 ∷ s 5 ∷ []))).outcome ≡ refused 9 25
  -- "Q with s2 as a fourth check: 8." It clashes too, with s1 and s3: "8 is tested before 9"
  pub q_with_s2 : (read_card (card_q (s 0 ∷ s 1 ∷ s 3 ∷ s 2 ∷ []))).outcome ≡ refused 8 25
  -- "T is accepted."
  pub t_is_accepted : (read_card (card_t (s 0 ∷ s 1 ∷ []) (s 0 ∷ s 2 ∷ []))).outcome ≡ accepted
  -- "With s0, s2 for stream 1: 8."
  pub t_with_s2 : (read_card (card_t (s 0 ∷ s 2 ∷ []) (s 0 ∷ s 2 ∷ []))).outcome ≡ refused 8 21
  -- "The first 19 bytes of P: 1 at 19."
  pub p_cut : (read_card (take 19 card_p)).outcome ≡ refused 1 19
  -- "A zero byte added: 10 at 20."
  pub p_longer : (read_card (card_p ++ 0 ∷ [])).outcome ≡ refused 10 20
  -- not the document's: the third check clashes with the first alone, so testing only neighbouring checks would accept it
  pub q_with_s0_again : (read_card (card_q (s 0 ∷ s 1 ∷ s 0 ∷ []))).outcome ≡ refused 9 20
  -- "P sends information 1, 0, 1 and tail as bytes 3, 2, 3, 2"
  pub p_sends : sent (read_card card_p).card (1 ∷ 0 ∷ 1 ∷ []) ≡ 3 ∷ 2 ∷ 3 ∷ 2 ∷ []
  -- "P receives 3, 3, 3, 2 as 1, 0, 1."
  pub p_receives : decoded (read_card card_p).card (3 ∷ 3 ∷ 3 ∷ 2 ∷ []) ≡ 1 ∷ 0 ∷ 1 ∷ []
  -- "P receives 2, 2, 0, 0 as 1, 0, 0: two errors in one window if zeros were sent."
  pub p_receives_two_errors : decoded (read_card card_p).card (2 ∷ 2 ∷ 0 ∷ 0 ∷ []) ≡ 1 ∷ 0 ∷ 0 ∷ []
  -- "Q receives 2, 2, 0, 0 as 1 (two of three votes)."
  pub q_receives : decoded (read_card (card_q (s 0 ∷ s 1 ∷ s 3 ∷ []))).card (2 ∷ 2 ∷ 0 ∷ 0 ∷ []) ≡ 1 ∷ []
  -- "P receives one frame: waiting."
  pub p_receives_one : answers_by Rule.decoded (read_card card_p).card (3 ∷ []) [] ≡ waiting ∷ []
  -- "An empty burst received: 0 frames."
  pub empty_burst : receive_of card_p [] [] ≡ record { answer = pos 0; output = [] }
  -- not the document's: without feedback T would give other frames, and feeding stream 1 back before stream 2 is decided would too
  pub t_receives : decoded (read_card (card_t (s 0 ∷ s 1 ∷ []) (s 0 ∷ s 2 ∷ []))).card (4 ∷ 4 ∷ 4 ∷ 0 ∷ 0 ∷ []) ≡ 3 ∷ 0 ∷ 0 ∷ []
  -- R-4: "A card that states k as 1 or n as 2 was accepted and isn't from now on", "with 18 at the field's offset"
  pub k_stated : (read_card k_stated_p).outcome ≡ refused 18 2
  pub n_stated : (read_card n_stated_p).outcome ≡ refused 18 2
  pub both_stated : (read_card stored_p).outcome ≡ refused 18 2
  pub k_was_stated : read_under Former k_stated_p ≡ read_card card_p
  pub n_was_stated : read_under Former n_stated_p ≡ read_card card_p
  pub both_were_stated : read_under Former stored_p ≡ read_card card_p
  -- "directly after the field's own range is found good": k is refused before n is looked at, here 9; n 2 under k 2 is out of range, and so is k 0;
  -- a field cut short has no range yet
  pub before_n : (read_card (3 ∷ 7 ∷ 1 ∷ 9 ∷ [])).outcome ≡ refused 18 2
  pub n_range_first : (read_card (3 ∷ 7 ∷ 2 ∷ 2 ∷ [])).outcome ≡ refused 3 3
  pub k_range_first : (read_card (3 ∷ 7 ∷ 0 ∷ 2 ∷ [])).outcome ≡ refused 2 2
  pub end_first : (read_card (1 ∷ 7 ∷ [])).outcome ≡ refused 1 2
  -- what is not a default may stand: n 3, and k 2 with n 3; here m is cut short
  pub other_n : (read_card (2 ∷ 7 ∷ 3 ∷ [])).outcome ≡ refused 1 3
  pub other_k : (read_card (3 ∷ 7 ∷ 2 ∷ 3 ∷ [])).outcome ≡ refused 1 4
  -- R-13: "7 is now met from J = 11", and the limit holds "in R-4's program too"
  pub ten_checks : (read_card (card_many 10)).outcome ≡ accepted
  pub eleven_checks : (read_card (card_many 11)).outcome ≡ refused 7 34
  pub ten_were_stored : read_under Former (stored_many 10) ≡ read_card (card_many 10)
  pub eleven_were_stored : (read_under Former (stored_many 11)).outcome ≡ refused 7 35
  -- R-6: "a check that touches an erased digit other than its own, at a time not yet decided, doesn't vote"
  pub erased : ErasedRows Rule.decoded
  -- R-7: "A level whose magnitude is below 0.25 is erased from now on; 0.25 and minus 0.25 themselves are digits."
  pub levels : LevelRows
