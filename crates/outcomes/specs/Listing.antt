-- The listing of an input, byte for byte: document 01, "The listing".
-- A refusal is given by its published number; streams and times are counted from 0.
-- Assumes nothing.
use Rattle.std.specs.Prelude.{ℕ, suc, ◌+◌, ◌*◌, ◌^◌, Bool, cond, ◌||◌, List, [], ◌∷◌, ◌++◌, map, length, get_or, take, drop, leb, ltb}
use Rattle.bits.specs.Sums.{up_to}
use Rattle.bits.specs.Digits.{bit, any_beyond}
use Rattle.card.specs.Outcome.{Outcome, accepted, refused}
use Rattle.card.specs.Reading.{read_card}
use Rattle.code.specs.declared.Card.{Card}
use Rattle.majority.specs.Plain.{decoded}
use Rattle.outcomes.specs.Text.{text, decimal, line}

-- ---- the input: "a two-byte card length, the card, then received frames to the end"

-- "Missing length bytes mean length 0"; "Integers are little-endian"
unfoldable pub stated_length : List ℕ → ℕ
stated_length input = cond (leb 2 (length input)) (get_or input 0 0 + get_or input 1 0 * 256) 0

-- "missing card bytes make a short card"
unfoldable pub card_bytes : List ℕ → List ℕ
card_bytes input = take (stated_length input) (drop 2 input)

-- "then received frames to the end": what follows the card's stated length
unfoldable pub frame_bytes : List ℕ → List ℕ
frame_bytes input = drop (stated_length input) (drop 2 input)

-- "a stated length above 2,048, or more than 32,768 frame bytes"
unfoldable pub is_too_long : List ℕ → Bool
is_too_long input = ltb 2048 (stated_length input) || ltb 32768 (length (frame_bytes input))

-- ---- the lines

-- "only `input too long`"
unfoldable pub too_long_line : List ℕ
too_long_line = line (text "input") (text "too" ∷ text "long" ∷ [])

-- "`refused N at P`, P the card offset or the frame's time"
unfoldable pub refused_line : ℕ → ℕ → List ℕ
refused_line number place = line (text "refused") (decimal number ∷ text "at" ∷ decimal place ∷ [])

-- "First line: card number, k, n, m, each after its word"
unfoldable pub card_line : ℕ → ℕ → ℕ → ℕ → List ℕ
card_line number k n m =
    line (text "card") (decimal number ∷ text "k" ∷ decimal k ∷ text "n" ∷ decimal n ∷ text "m" ∷ decimal m ∷ [])

-- "its time and the digits of streams 1 to k"
unfoldable pub frame_line : ℕ → ℕ → ℕ → List ℕ
frame_line k time frame = line (decimal time) (map decimal (up_to k (bit frame)))

-- "a line per frame handed out", the first of them of this time
unfoldable pub frame_lines : ℕ → ℕ → List ℕ → List ℕ
frame_lines k time [] = []
frame_lines k time (frame ∷ frames) = frame_line k time frame ++ frame_lines k (suc time) frames

-- "`end` and the count of these lines"
unfoldable pub line_of_end : ℕ → List ℕ
line_of_end count = line (text "end") (decimal count ∷ [])

-- ---- the listing

-- the time of the first frame that has a digit at stream n or beyond; the count of the frames where there is none
unfoldable pub first_beyond : ℕ → List ℕ → ℕ
first_beyond n [] = 0
first_beyond n (frame ∷ frames) = cond (leb (2 ^ n) frame) 0 (suc (first_beyond n frames))

-- the listing of these frames handed out under the card c
unfoldable pub listing_of : Card → List ℕ → List ℕ
listing_of c frames_handed_out =
    card_line c.number c.k (c.k + c.p) c.m ++ (frame_lines c.k 0 frames_handed_out ++ line_of_end (length frames_handed_out))

-- "A refusal prints only `refused N at P`": the card's, or 11 of the first frame that has a digit beyond its streams. A receiver's other refusals
-- are not met: there are no levels (12), no lent output (13), no card number with a frame (14) and fewer than 1,048,576 frames (15).
unfoldable pub listing_under : Outcome → Card → List ℕ → List ℕ
listing_under (refused number offset) c frames = refused_line number offset
listing_under accepted c frames =
    cond (any_beyond (c.k + c.p) frames) (refused_line 11 (first_beyond (c.k + c.p) frames)) (listing_of c (decoded c frames))

-- "gives only `input too long`, before any other fault"
unfoldable pub listing : List ℕ → List ℕ
listing input =
    cond (is_too_long input) too_long_line
    (listing_under (read_card (card_bytes input)).outcome (read_card (card_bytes input)).card (frame_bytes input))
