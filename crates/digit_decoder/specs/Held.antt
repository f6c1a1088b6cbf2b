-- What a session does with a frame to what it holds besides its card, for tables and registers of every value: what the functions of `digit_decoder` compute.
-- Nobody has to believe this file: `Receive` says by it what the session does, and proofs/Follow.antt ties that to the second rule (`majority`,
-- `SecondCircuit`).
-- Digit a of received register s is the digit of stream s at u + a, where the frame of time u is decided next; digit 32 - b of decided register i is
-- information digit i at u - b.
-- Assumes nothing.
use Rattle.std.specs.Prelude.{ℕ, ◌+◌, ◌-◌, ◌*◌, ◌/◌, ◌^◌, cond, List, ◌++◌, ltb, length, get_or, drop, replicate}
use Rattle.std.specs.Int.Bits.{bit_xor}
use Rattle.std.specs.Int.Count.{ones}
use Rattle.bits.specs.Sums.{xor_below, up_to}
use Rattle.bits.specs.Digits.{bit, from_digits, shift_up}
use Rattle.code.specs.Registers.{generator_mask, with_digits, moved_on}
use Rattle.code.specs.declared.Sizes.{Sizes}
use Rattle.code.specs.ErasedDigits.{any_with, erased_with, erased_moved}
use Rattle.vote.specs.Voters.{voters_by}
use Rattle.vote.specs.Voting.{stream_ones_by}
use Rattle.digit_decoder.specs.declared.Held.{Held}

-- ---- the sums that are voted on

-- what an information stream with the generator g adds to the sums of a parity stream: for each term both of its registers, moved by it
unfoldable pub share_by : ℕ → ℕ → ℕ → ℕ
share_by g r d = xor_below 32 (λ l. bit_xor (shift_up r l) (d / 2 ^ (32 - l)) * bit g l)

-- the sums of parity stream j
unfoldable pub sum_by : List ℕ → List ℕ → List ℕ → ℕ → ℕ → ℕ
sum_by g r d k j = bit_xor (get_or r (k + j) 0) (xor_below k (λ s. share_by (generator_mask g s j) (get_or r s 0) (get_or d s 0)))

unfoldable pub sums_by : List ℕ → List ℕ → List ℕ → ℕ → ℕ → List ℕ
sums_by g r d k p = up_to p (sum_by g r d k) ++ drop p (replicate 8 0)

-- the sums without the digit of stream i at u
unfoldable pub others_by : List ℕ → List ℕ → ℕ → ℕ → ℕ → List ℕ
others_by sums g own i p = up_to p (λ j. bit_xor (get_or sums j 0) (generator_mask g i j * own)) ++ drop p (replicate 8 0)

-- the received digit of stream i at u
abbrev pub own_of : List ℕ → ℕ → ℕ
own_of r i = bit (get_or r i 0) 0

-- the sums that the votes on it are taken from
unfoldable pub entering_by : List ℕ → List ℕ → List ℕ → ℕ → ℕ → List ℕ
entering_by g r sums p i = others_by sums g (own_of r i) i p

-- ---- the frame that is decided next

-- the majority of the checks that vote, of which `one` are 1; a tie goes to the received digit
unfoldable pub majority_digit : ℕ → ℕ → ℕ → ℕ
majority_digit voting one own = cond (ltb (ones voting) (2 * ones one)) 1 (cond (ltb (2 * ones one) (ones voting)) 0 own)

-- the digit of stream i as it is decided, by votes from which it is left out; `voters` has a word for each stream
unfoldable pub decide_digit_by : List ℕ → List ℕ → List ℕ → List ℕ → List ℕ → ℕ → ℕ → ℕ
decide_digit_by g checks voters r sums p i = majority_digit (get_or voters i 0) (stream_ones_by checks i (get_or voters i 0) (entering_by g r sums p i) p) (own_of r i)

-- the frame as it is decided
unfoldable pub decide_frame_by : List ℕ → List ℕ → List ℕ → List ℕ → List ℕ → ℕ → ℕ → ℕ
decide_frame_by g checks voters r d k p = from_digits k (decide_digit_by g checks voters r (sums_by g r d k p) p)

-- the decided registers with the digits of a frame more
unfoldable pub with_decided : List ℕ → ℕ → List ℕ
with_decided d f = up_to (length d) (λ i. bit_xor (get_or d i 0 / 2) (shift_up (bit f i) 31))

-- ---- what is held

-- before the first frame
abbrev pub nothing_held : Held
nothing_held = record { digits = replicate 8 0; decided = replicate 4 0; erased = record { registers = replicate 8 0; any = 0 } }

-- with the frame f, of which the digits e are erased, put in at place a, and nothing decided yet
unfoldable pub held_with_frame : Held → ℕ → ℕ → ℕ → Held
held_with_frame h a f e =
    record {
      digits = with_digits h.digits f a;
      decided = h.decided;
      erased = record { registers = erased_with h.erased.registers h.erased.any e a; any = any_with h.erased.any e a };
    }

-- the frame that is decided next, as it is decided
unfoldable pub decided_in : List ℕ → List ℕ → List ℕ → Held → Sizes → ℕ
decided_in g counts checks h z =
    decide_frame_by g checks (voters_by g counts checks h.erased.registers h.erased.any z.k z.p) h.digits h.decided z.k z.p

-- with the decided frame f in place of what was received, for the next frame
unfoldable pub next_held : Held → ℕ → Held
next_held h f =
    record {
      digits = moved_on h.digits;
      decided = with_decided h.decided f;
      erased = record { registers = erased_moved h.erased.registers h.erased.any; any = h.erased.any / 2 };
    }
