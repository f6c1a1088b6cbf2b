-- Streams at the edge of the third term's condition, which pin it: each that just meets it, and with one wrong digit more does not.
-- The condition is a parameter: `Correctable` here, and what a burst asks of its input (`outcomes`, `Claims.SentAs`).
-- `Meets c info frames` is about the frames received where the code c sent the information frames `info`, and the tail; in `ErasedEdges` it is told as well
-- which of their digits are erased.
-- Where zeros are sent, the digits of a frame received are the wrong ones. A frame's information digit is 1 and its parity digit 2, for P, Q, R and Six;
-- for T 1 and 2 are the information digits, 4 is the parity digit; for Wide 1, 2, 4 and 8, 16, 32.
-- Assumes nothing.
use Rattle.std.specs.Prelude.{ℕ, ◌+◌, ◌*◌, ◌/◌, ◌%◌, List, [], ◌∷◌, ◌++◌, replicate}
use Rattle.bits.specs.Sums.{up_to}
use Rattle.code.specs.Bench.{P, Q, R, T, Six, Wide}
use Rattle.code.specs.declared.Card.{Card}

pub record Edges (Meets : Card → List ℕ → List ℕ → Type 0) : Type 0 where
  -- P, J 2: one wrong digit, here that of time 1, in what is sent as 3, 2, 3, 2
  pub p_one : Meets P (1 ∷ 0 ∷ 1 ∷ []) (3 ∷ 3 ∷ 3 ∷ 2 ∷ [])
  pub p_two : Meets P (1 ∷ 0 ∷ 1 ∷ []) (3 ∷ 3 ∷ 2 ∷ 2 ∷ []) → ⊥
  -- the own digit is wrong: both checks touch it, and it is counted once
  pub p_own : Meets P (0 ∷ []) (1 ∷ 0 ∷ [])
  pub p_own_and_parity : Meets P (0 ∷ []) (3 ∷ 0 ∷ []) → ⊥
  -- no information at all: the tail's digits are not meant, and may all be wrong
  pub p_none : Meets P [] (3 ∷ [])
  -- a long stream is held to no more: twenty information frames, and in every second frame the parity digit is wrong. Each of them is held to it: with the
  -- tail's information digit too there are two for the last digit
  pub p_long : Meets P (replicate 20 0) (up_to 21 (λ u. u % 2 * 2))
  pub p_long_last : Meets P (replicate 20 0) (up_to 21 (λ u. u % 2 * 2 + u / 20)) → ⊥
  -- Q, J 3: half of it rounded down is one
  pub q_one : Meets Q (0 ∷ []) (2 ∷ 0 ∷ 0 ∷ 0 ∷ [])
  pub q_two : Meets Q (0 ∷ []) (2 ∷ 2 ∷ 0 ∷ 0 ∷ []) → ⊥
  -- the parity digit of time 2, in the tail, is touched by no check of the one information digit; those of times 1 and 3 are
  pub q_tail : Meets Q (0 ∷ []) (0 ∷ 0 ∷ 2 ∷ 2 ∷ [])
  pub q_tail_touched : Meets Q (0 ∷ []) (0 ∷ 2 ∷ 2 ∷ 2 ∷ []) → ⊥
  -- R, J 4: two wrong digits, on two of its four checks
  pub r_two : Meets R (0 ∷ []) (2 ∷ 0 ∷ 0 ∷ 2 ∷ 0 ∷ 0 ∷ [])
  pub r_three : Meets R (0 ∷ []) (2 ∷ 0 ∷ 0 ∷ 2 ∷ 2 ∷ 0 ∷ []) → ⊥
  -- T, J 2 for each of two streams, in what is sent for 3 as 3, 4, 4: the parity digit of time 1 is touched for stream 1 alone, that of time 2 for
  -- stream 2 alone
  pub t_one_each : Meets T (3 ∷ []) (3 ∷ 0 ∷ 0 ∷ [])
  pub t_two_for_stream_1 : Meets T (3 ∷ []) (3 ∷ 2 ∷ 0 ∷ []) → ⊥
  pub t_two_for_stream_2 : Meets T (3 ∷ []) (3 ∷ 0 ∷ 1 ∷ []) → ⊥

-- the same of the larger cards: what a digit stands grows with its J, and its stream and all parity streams count
pub record LargerEdges (Meets : Card → List ℕ → List ℕ → Type 0) : Type 0 where
  -- Six, J 6: half of it is three, here on s0, s7 and s20, the last of them in the last frame of the tail; and on s12 too
  pub six_three : Meets Six (0 ∷ []) (2 ∷ replicate 6 0 ++ 2 ∷ replicate 12 0 ++ 2 ∷ [])
  pub six_four : Meets Six (0 ∷ []) (2 ∷ replicate 6 0 ++ 2 ∷ replicate 4 0 ++ 2 ∷ replicate 7 0 ++ 2 ∷ []) → ⊥
  -- Wide, J 4, 2 and 3, in what is sent for 7 as 63, 8, 56. Parity digits 2 and 3 of time 1 are touched for stream 1 alone, 3 of time 0 for stream 2 alone,
  -- and 3 of time 2 for stream 3 alone: as many as each stands. Then one more for each: parity digit 1 of time 0, 1 of time 2, and 2 of time 2
  pub wide_each : Meets Wide (7 ∷ []) (31 ∷ 56 ∷ 24 ∷ [])
  pub wide_three_for_stream_1 : Meets Wide (7 ∷ []) (23 ∷ 56 ∷ 24 ∷ []) → ⊥
  pub wide_two_for_stream_2 : Meets Wide (7 ∷ []) (31 ∷ 56 ∷ 16 ∷ []) → ⊥
  pub wide_two_for_stream_3 : Meets Wide (7 ∷ []) (31 ∷ 56 ∷ 8 ∷ []) → ⊥

-- with erased digits, which are received as 0. A check touches: of P, s0 the own digit and its parity digit, s1 the own digit and both of the next frame; of Q,
-- s0 and s1 as of P, s3 the own digit, the information digits 2 and 3 frames later, and the parity digit 3 frames later
pub record ErasedEdges (Meets : Card → List ℕ → List ℕ → List ℕ → Type 0) : Type 0 where
  -- Q, in what is sent for 1 as 3, 2, 0, 2. Frame 1 is lost: s1 does not vote, two votes stand one wrong digit, and the lost one is none of them
  pub q_frame_lost : Meets Q (1 ∷ []) (1 ∷ 0 ∷ 0 ∷ 2 ∷ []) (0 ∷ 3 ∷ 0 ∷ 0 ∷ [])
  pub q_frame_lost_two : Meets Q (1 ∷ []) (1 ∷ 0 ∷ 0 ∷ 0 ∷ []) (0 ∷ 3 ∷ 0 ∷ 0 ∷ []) → ⊥
  -- the same frames with nothing erased do not meet it
  pub q_frame_not_lost : Meets Q (1 ∷ []) (1 ∷ 0 ∷ 0 ∷ 2 ∷ []) [] → ⊥
  -- one vote stands none: the parity digits of times 0 and 1 are erased
  pub q_one_vote : Meets Q (1 ∷ []) (1 ∷ 0 ∷ 0 ∷ 2 ∷ []) (2 ∷ 2 ∷ 0 ∷ 0 ∷ [])
  pub q_one_vote_one : Meets Q (1 ∷ []) (1 ∷ 0 ∷ 0 ∷ 0 ∷ []) (2 ∷ 2 ∷ 0 ∷ 0 ∷ []) → ⊥
  -- the own digit is erased: all three vote, and it is wrong if 1 was sent
  pub q_own : Meets Q (1 ∷ []) (2 ∷ 2 ∷ 0 ∷ 2 ∷ []) (1 ∷ 0 ∷ 0 ∷ 0 ∷ [])
  pub q_own_and_one : Meets Q (1 ∷ []) (2 ∷ 0 ∷ 0 ∷ 2 ∷ []) (1 ∷ 0 ∷ 0 ∷ 0 ∷ []) → ⊥
  pub q_own_of_zero : Meets Q (0 ∷ []) (2 ∷ 0 ∷ 0 ∷ 0 ∷ []) (1 ∷ 0 ∷ 0 ∷ 0 ∷ [])
  -- none votes: the own digit alone counts, and must be right
  pub q_no_vote : Meets Q (1 ∷ []) (1 ∷ 0 ∷ 0 ∷ 0 ∷ []) (2 ∷ 2 ∷ 0 ∷ 2 ∷ [])
  pub q_no_vote_own : Meets Q (0 ∷ []) (1 ∷ 0 ∷ 0 ∷ 0 ∷ []) (2 ∷ 2 ∷ 0 ∷ 2 ∷ []) → ⊥
  pub q_all_lost : Meets Q (0 ∷ []) (0 ∷ 0 ∷ 0 ∷ 0 ∷ []) (3 ∷ 3 ∷ 3 ∷ 3 ∷ [])
  pub q_all_lost_of_one : Meets Q (1 ∷ []) (0 ∷ 0 ∷ 0 ∷ 0 ∷ []) (3 ∷ 3 ∷ 3 ∷ 3 ∷ []) → ⊥
  -- P, in what is sent for 0, 1 as 0, 3, 2. Frame 0 is lost: once it is decided, both checks vote on digit 1 and stand one wrong digit
  pub p_decided : Meets P (0 ∷ 1 ∷ []) (0 ∷ 3 ∷ 0 ∷ []) (3 ∷ 0 ∷ 0 ∷ [])
  pub p_decided_two : Meets P (0 ∷ 1 ∷ []) (0 ∷ 3 ∷ 1 ∷ []) (3 ∷ 0 ∷ 0 ∷ []) → ⊥
  -- the tail's information digit is erased, and s1 does not vote on the last digit
  pub p_tail : Meets P (1 ∷ 0 ∷ 1 ∷ []) (3 ∷ 3 ∷ 3 ∷ 2 ∷ []) (0 ∷ 0 ∷ 0 ∷ 1 ∷ [])
  pub p_tail_last : Meets P (1 ∷ 0 ∷ 1 ∷ []) (3 ∷ 2 ∷ 1 ∷ 2 ∷ []) (0 ∷ 0 ∷ 0 ∷ 1 ∷ []) → ⊥
  -- T, in what is sent for 3 as 3, 4, 4: nothing is erased
  pub t_one_each : Meets T (3 ∷ []) (3 ∷ 0 ∷ 0 ∷ []) (0 ∷ 0 ∷ 0 ∷ [])
  -- the digit of stream 2 is erased: s0 votes for stream 2, whose own it is, and does not for stream 1
  pub t_other_stream : Meets T (3 ∷ []) (1 ∷ 4 ∷ 4 ∷ []) (2 ∷ 0 ∷ 0 ∷ [])
  pub t_other_stream_one : Meets T (3 ∷ []) (1 ∷ 0 ∷ 4 ∷ []) (2 ∷ 0 ∷ 0 ∷ []) → ⊥
  pub t_other_stream_two : Meets T (3 ∷ []) (1 ∷ 4 ∷ 0 ∷ []) (2 ∷ 0 ∷ 0 ∷ []) → ⊥

pub record LargerErasedEdges (Meets : Card → List ℕ → List ℕ → List ℕ → Type 0) : Type 0 where
  -- Wide, in what is sent for 7 as 63, 8, 56. Parity digits 2 and 3 of time 1 are erased, and 3 of time 2: of the checks of stream 1 the two on parity
  -- stream 1 vote, and of those of stream 3 the two on parity stream 2. Each pair stands one wrong digit, here parity digits 1 and 2 of time 0; the lost
  -- one of time 2, which was sent as 1, is none of them. Then one more for each: parity digit 1 of time 1, and 2 of time 2
  pub wide_lost : Meets Wide (7 ∷ []) (39 ∷ 8 ∷ 24 ∷ []) (0 ∷ 48 ∷ 32 ∷ [])
  pub wide_lost_two_for_stream_1 : Meets Wide (7 ∷ []) (39 ∷ 0 ∷ 24 ∷ []) (0 ∷ 48 ∷ 32 ∷ []) → ⊥
  pub wide_lost_two_for_stream_3 : Meets Wide (7 ∷ []) (39 ∷ 8 ∷ 8 ∷ []) (0 ∷ 48 ∷ 32 ∷ []) → ⊥
