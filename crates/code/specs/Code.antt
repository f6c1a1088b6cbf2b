-- The systematic convolutional code of a card: document 01, "The code".
-- A frame is a number, digit s for stream s; streams are counted from 0, where the document counts from 1: information streams 0 to k - 1,
-- and parity stream j, from 0, is stream k + j. A stream in time is a list of frames.
-- Assumes nothing.
use Rattle.std.specs.Prelude.{ℕ, suc, ◌+◌, ◌-◌, ◌*◌, ◌%◌, cond, List, ◌++◌, length, get_or, replicate, ltb}
use Rattle.bits.specs.Sums.{sum_below, up_to, back}
use Rattle.bits.specs.Digits.{bit, from_digits}
use Rattle.code.specs.declared.Card.{Card}

-- a stream has at most 1,048,576 frames, the tail included: refusal 15
abbrev pub most_frames : ℕ
most_frames = 1048576

-- g (i, j, a): "a generator is a 32-bit mask: bit a is g (i, j, a)"
unfoldable pub generator : Card → ℕ → ℕ → ℕ → ℕ
generator c i j a = bit (get_or c.generators (i * 8 + j) 0) a

-- the digit of stream s at time u, zero after the last frame
unfoldable pub digit : List ℕ → ℕ → ℕ → ℕ
digit frames s u = bit (get_or frames u 0) s

-- the digit of parity stream j at u: the sum over information streams i and a = 0 to m of g (i, j, a) times information digit i at u - a
unfoldable pub parity_at : Card → List ℕ → ℕ → ℕ → ℕ
parity_at c frames j u = sum_below c.k (λ i. sum_below (suc c.m) (λ a. generator c i j a * back (digit frames i) u a)) % 2

-- the information frames and the tail, m frames of zero information
unfoldable pub with_tail : Card → List ℕ → List ℕ
with_tail c info = info ++ replicate c.m 0

-- the digit of stream s that is sent at u for the information frames xs
unfoldable pub sent_digit : Card → List ℕ → ℕ → ℕ → ℕ
sent_digit c xs u s = cond (ltb s c.k) (digit xs s u) (parity_at c xs (s - c.k) u)

-- the frame that is sent at u
unfoldable pub sent_frame : Card → List ℕ → ℕ → ℕ
sent_frame c xs u = from_digits (c.k + c.p) (sent_digit c xs u)

-- the frames that are sent for the information frames: these and the tail, in full
unfoldable pub sent : Card → List ℕ → List ℕ
sent c info = up_to (length info + c.m) (sent_frame c (with_tail c info))
