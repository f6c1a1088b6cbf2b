-- What comes out where digits are erased: document 02, R-6. Which checks vote is pinned by these rows, since the theorem holds whichever do. `handed c frames erased`
-- are the frames handed out: the first circuit's here, and the second's.
-- Assumes nothing.
use Rattle.std.specs.Prelude.{ℕ, ◌≡◌, List, [], ◌∷◌, ◌++◌, replicate}
use Rattle.code.specs.Bench.{P, Q, R, T, Six, Wide}
use Rattle.code.specs.declared.Card.{Card}

pub record ErasedRows (handed : Card → List ℕ → List ℕ → List ℕ) : Type 0 where
  -- Q, in what is sent for 1 as 3, 2, 0, 2: parity digit 0 is wrong and frame 1 lost, "and taking an erased digit as 0 makes a wrong vote of it half the time"
  pub frame_lost : handed Q (1 ∷ 0 ∷ 0 ∷ 2 ∷ []) (0 ∷ 3 ∷ 0 ∷ 0 ∷ []) ≡ 1 ∷ []
  pub frame_not_lost : handed Q (1 ∷ 0 ∷ 0 ∷ 2 ∷ []) [] ≡ 0 ∷ []
  -- "J in the decision is the number of checks that do": s3 alone votes, and puts the digit right
  pub one_vote : handed Q (0 ∷ 0 ∷ 0 ∷ 2 ∷ []) (2 ∷ 2 ∷ 0 ∷ 0 ∷ []) ≡ 1 ∷ []
  -- an erased own digit of 1 is put right by its checks, and one of them may be wrong
  pub own_lost : handed Q (2 ∷ 2 ∷ 0 ∷ 0 ∷ []) (1 ∷ 0 ∷ 0 ∷ 0 ∷ []) ≡ 1 ∷ []
  -- "if none votes, the decided error is 0", though every check is 1
  pub no_vote : handed Q (1 ∷ 0 ∷ 0 ∷ 0 ∷ []) (2 ∷ 2 ∷ 0 ∷ 2 ∷ []) ≡ 1 ∷ []
  pub no_vote_not_lost : handed Q (1 ∷ 0 ∷ 0 ∷ 0 ∷ []) [] ≡ 0 ∷ []
  -- every digit is erased
  pub all_lost : handed P (0 ∷ 0 ∷ 0 ∷ 0 ∷ []) (3 ∷ 3 ∷ 3 ∷ 3 ∷ []) ≡ 0 ∷ 0 ∷ 0 ∷ []
  -- every second digit is erased. P sends 1, 1, 0 as 3, 1, 2, 0, and the parity digits alone tell them; 1, 0, 1 as 3, 2, 3, 2, and without parity digits they
  -- come out as received
  pub information_lost : handed P (2 ∷ 0 ∷ 2 ∷ 0 ∷ []) (1 ∷ 1 ∷ 1 ∷ 1 ∷ []) ≡ 1 ∷ 1 ∷ 0 ∷ []
  pub parity_lost : handed P (1 ∷ 0 ∷ 1 ∷ 0 ∷ []) (2 ∷ 2 ∷ 2 ∷ 2 ∷ []) ≡ 1 ∷ 0 ∷ 1 ∷ []
  -- "at a time not yet decided": P sends 1, 1 as 3, 1, 2. Frame 0 is lost and put right; then both checks vote on digit 1, the second of them wrongly: a tie
  pub decided_times : handed P (0 ∷ 1 ∷ 0 ∷ []) (3 ∷ 0 ∷ 0 ∷ []) ≡ 1 ∷ 1 ∷ []
  -- a check of two syndromes: R's s1 + s5 touches the parity digits of times 1 and 5, and not that of time 2; s0, s3, s4 and it are 1, 0, 0, 1
  pub two_syndromes : handed R (2 ∷ 2 ∷ 0 ∷ 0 ∷ 0 ∷ 0 ∷ []) (0 ∷ 0 ∷ 2 ∷ 2 ∷ 0 ∷ 0 ∷ []) ≡ 1 ∷ []
  pub two_syndromes_lost : handed R (2 ∷ 2 ∷ 0 ∷ 0 ∷ 0 ∷ 0 ∷ []) (0 ∷ 0 ∷ 2 ∷ 2 ∷ 0 ∷ 2 ∷ []) ≡ 0 ∷ []
  -- T sends 3 as 3, 4, 4: the digit of stream 2 is erased, and s0 votes on it and not on that of stream 1. Where that came wrong too, s1 alone puts it right,
  -- and s0 would make a tie; on the erased one s0 and s2 are a tie, and s2 alone would decide 1
  pub own_stream : handed T (1 ∷ 4 ∷ 4 ∷ []) (2 ∷ 0 ∷ 0 ∷ []) ≡ 3 ∷ []
  pub other_stream : handed T (0 ∷ 4 ∷ 4 ∷ []) (2 ∷ 0 ∷ 0 ∷ []) ≡ 1 ∷ []
  -- more than half of a larger J: Six, where zeros are sent, and s0, s1 and s3 are 1. s20 does not vote, its parity digit being erased: three of five
  pub five_votes : handed Six (2 ∷ 2 ∷ 0 ∷ 2 ∷ replicate 17 0) (replicate 20 0 ++ 2 ∷ []) ≡ 1 ∷ []
  -- an erased digit of any parity stream: Wide sends 7 as 63, 8, 56. Parity digit 3 of time 2 is erased, and the last check of stream 3, which is over two
  -- parity streams, does not vote. The first one is 1, since parity digit 2 of time 0 came wrong: a tie
  pub parity_3_lost : handed Wide (47 ∷ 8 ∷ 24 ∷ []) (0 ∷ 0 ∷ 32 ∷ []) ≡ 7 ∷ []
  pub parity_3_not_lost : handed Wide (47 ∷ 8 ∷ 24 ∷ []) [] ≡ 3 ∷ []
  -- and 1 as 9, 56, 32: parity digit 2 of time 1 is erased, and the third check of stream 1 does not vote. The digit itself and parity digit 1 of time 0 came
  -- wrong: two of the other three checks are 1
  pub parity_2_lost : handed Wide (0 ∷ 40 ∷ 32 ∷ []) (0 ∷ 16 ∷ 0 ∷ []) ≡ 1 ∷ []
  pub parity_2_not_lost : handed Wide (0 ∷ 40 ∷ 32 ∷ []) [] ≡ 0 ∷ []
