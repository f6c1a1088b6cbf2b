-- The code by registers, for registers and tables of every value: what `code` computes. Nobody has to believe this file: the laws in
-- proofs/Registers.antt tie it to the code of document 01 (`Code`).
-- Assumes nothing.
use Rattle.std.specs.Prelude.{ℕ, ◌+◌, ◌-◌, ◌*◌, ◌/◌, ◌%◌, ◌^◌, min, cond, List, ◌++◌, length, get_or, drop, replicate, ltb}
use Rattle.std.specs.Int.Bits.{bit_xor}
use Rattle.bits.specs.Sums.{sum_below, xor_below, up_to, put_first}
use Rattle.bits.specs.Digits.{bit, from_digits, shift_up, dot}

-- the mask of information stream i and parity stream j, zero beyond the table
unfoldable pub generator_mask : List ℕ → ℕ → ℕ → ℕ
generator_mask g i j = cond (ltb i 4) (cond (ltb j 8) (get_or g (i * 8 + j) 0) 0) 0

-- the generators, on parity stream j, of those of the k information streams that are in x, added up
unfoldable pub generator_sum : List ℕ → ℕ → ℕ → ℕ → ℕ
generator_sum g k x j = xor_below k (λ i. generator_mask g i j * bit x i)

-- a register of 32 digits with one digit more at its low end
unfoldable pub shift_in : ℕ → ℕ → ℕ
shift_in x d = (x * 2 + d) % 2 ^ 32

-- the history registers after a frame, one for each of the k information streams
unfoldable pub history_by : List ℕ → ℕ → ℕ → List ℕ
history_by h k f = put_first k (λ i. shift_in (get_or h i 0) (bit f i)) h

-- the digit of parity stream j that the information digits in the registers give
unfoldable pub parity_by : List ℕ → List ℕ → ℕ → ℕ → ℕ
parity_by g h k j = sum_below (min k 4) (λ i. dot (generator_mask g i j) (get_or h i 0)) % 2

-- the digit of stream s of the frame that is sent for the information frame f, which the registers have taken in
unfoldable pub digit_by : List ℕ → List ℕ → ℕ → ℕ → ℕ → ℕ
digit_by g h k f s = cond (ltb s (min k 4)) (bit f s) (parity_by g h k (s - min k 4))

-- the frame that is sent, eight digits at most
unfoldable pub frame_by : List ℕ → List ℕ → ℕ → ℕ → ℕ → ℕ
frame_by g h k p f = from_digits (min k 4 + min p (8 - min k 4)) (digit_by g h k f)

-- the syndromes of the received frame f, which the registers have taken in, digit j for parity stream j: where it differs from the frame that is sent for
-- its information digits
unfoldable pub syndromes_by : List ℕ → List ℕ → ℕ → ℕ → ℕ → ℕ
syndromes_by g h k p f = bit_xor f (frame_by g h k p f) / 2 ^ min k 4

-- what the errors e of a frame changed in the syndromes of each parity stream: the generators of their streams
unfoldable pub feedback_by : List ℕ → ℕ → ℕ → ℕ → List ℕ
feedback_by g k p e = up_to (min p 8) (generator_sum g k e) ++ drop (min p 8) (replicate 8 0)

-- the registers with the digits of a frame put in at place a
unfoldable pub with_digits : List ℕ → ℕ → ℕ → List ℕ
with_digits y f a = up_to (length y) (λ s. bit_xor (get_or y s 0) (shift_up (bit f s) a))

-- the registers with words added to them
unfoldable pub with_words : List ℕ → List ℕ → List ℕ
with_words y words = up_to (length y) (λ s. bit_xor (get_or y s 0) (get_or words s 0))

-- the registers for the next frame, every digit a place further
unfoldable pub moved_on : List ℕ → List ℕ
moved_on y = up_to (length y) (λ s. get_or y s 0 / 2)
