-- Bursts of cards P and Wide at the edge of each refusal, which pin when a burst meets none of them.
-- Assumes nothing.
use Rattle.std.specs.Prelude.{[], ◌∷◌, ◌++◌, take, replicate}
use Rattle.card.specs.Bench.{card_p, card_wide}
use Rattle.outcomes.specs.Claims.{Admitted}

pub record Admissions : Type 0 where
  -- four frames, of which three come out: 13 where the output is for two
  pub room : Admitted card_p (3 ∷ 3 ∷ 3 ∷ 2 ∷ []) (0 ∷ 0 ∷ 0 ∷ [])
  pub no_room : Admitted card_p (3 ∷ 3 ∷ 3 ∷ 2 ∷ []) (0 ∷ 0 ∷ []) → ⊥
  -- two streams: 11 where a frame has the digit of a third
  pub third_stream : Admitted card_p (3 ∷ 3 ∷ 4 ∷ 2 ∷ []) (0 ∷ 0 ∷ 0 ∷ []) → ⊥
  -- as many frames as there may be: 15 at one more
  pub most : Admitted card_p (replicate 1048576 0) (replicate 1048576 0)
  pub one_more : Admitted card_p (replicate 1048577 0) (replicate 1048577 0) → ⊥
  -- the card's refusal
  pub card_cut : Admitted (take 19 card_p) [] [] → ⊥
  -- Wide, m 2, and every digit of its six streams: of five frames three come out, and 13 where the output is for two
  pub wide_room : Admitted card_wide (replicate 5 63) (replicate 3 0)
  pub wide_no_room : Admitted card_wide (replicate 5 63) (replicate 2 0) → ⊥
  -- 11 where a frame has the digit of a seventh stream
  pub seventh_stream : Admitted card_wide (replicate 4 63 ++ 64 ∷ []) (replicate 3 0) → ⊥
  -- as many frames as there may be, and room for just those that come out: 15 at one more
  pub wide_most : Admitted card_wide (replicate 1048576 0) (replicate 1048574 0)
  pub wide_one_more : Admitted card_wide (replicate 1048577 0) (replicate 1048577 0) → ⊥
