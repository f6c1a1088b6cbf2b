-- The link figure of cards with a long memory and with several parity streams: document 01, "The link figure of a session is the count of ones in the
-- syndromes it still holds, feedback taken out." Where zeros are sent, each wrong parity digit makes a syndrome 1.
-- Assumes nothing.
use Rattle.std.specs.Prelude.{◌≡◌, [], ◌∷◌, replicate}
use Rattle.code.specs.Bench.{Six, Wide}
use Rattle.majority.specs.Rule.{figure_by}

pub record FigureRows : Type 0 where
  -- Wide, every parity digit wrong: those of all three parity streams count, of one frame and of two
  pub one_frame : figure_by Wide (56 ∷ []) [] ≡ 3
  pub two_frames : figure_by Wide (56 ∷ 56 ∷ []) [] ≡ 6
  -- with the third frame the first is handed out: parity digit 2 of time 1 and 3 of time 2 are held, and that of time 0 is not
  pub later_frames : figure_by Wide (8 ∷ 16 ∷ 32 ∷ []) [] ≡ 2
  -- the digit of stream 1 is wrong, which makes four syndromes 1; once it is decided, feedback takes it out of all
  pub undecided : figure_by Wide (1 ∷ 0 ∷ []) [] ≡ 4
  pub fed_back_first : figure_by Wide (1 ∷ 0 ∷ 0 ∷ []) [] ≡ 0
  -- what is fed back is what the checks that vote decide (`Erased`, parity_2_lost)
  pub fed_back_by_votes : figure_by Wide (0 ∷ 40 ∷ 32 ∷ []) (0 ∷ 16 ∷ 0 ∷ []) ≡ 1
  pub fed_back_by_all : figure_by Wide (0 ∷ 40 ∷ 32 ∷ []) [] ≡ 3
  -- Six, every parity digit wrong: as many as its memory
  pub twenty_frames : figure_by Six (replicate 20 2) [] ≡ 20
