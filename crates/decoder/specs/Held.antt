-- What a session does with a frame to what it holds besides its card, for tables and registers of every value: what the functions of `decoder` compute. Nobody
-- has to believe this file: `Receive` says by it what the session does, and proofs/Follow.antt ties that to the rule.
-- Digit a of syndrome register j is the syndrome of parity stream j at u + a, where the frame of time u is decided next.
-- Assumes nothing.
use Rattle.std.specs.Prelude.{ℕ, ◌+◌, ◌/◌, ◌%◌, List, get_or, replicate}
use Rattle.std.specs.Int.Count.{ones}
use Rattle.bits.specs.Sums.{sum_below}
use Rattle.bits.specs.Digits.{bit, from_digits}
use Rattle.code.specs.Registers.{history_by, syndromes_by, feedback_by, with_digits, with_words, moved_on}
use Rattle.code.specs.declared.Sizes.{Sizes}
use Rattle.code.specs.ErasedDigits.{any_with, erased_with, erased_moved}
use Rattle.vote.specs.Voters.{decide_marked}
use Rattle.decoder.specs.declared.Held.{Held}

-- before the first frame
abbrev pub nothing_held : Held
nothing_held = record { history = replicate 4 0; syndromes = replicate 8 0; erased = record { registers = replicate 8 0; any = 0 } }

-- the syndrome registers with the syndromes of frame f, which the history registers h have already, put in at place a
unfoldable pub with_syndromes : List ℕ → List ℕ → List ℕ → Sizes → ℕ → ℕ → List ℕ
with_syndromes g h y z a f = with_digits y (syndromes_by g h z.k z.p f) a

-- the syndrome registers with the decided errors e taken out, for the next frame
unfoldable pub fed_back : List ℕ → List ℕ → Sizes → ℕ → List ℕ
fed_back g y z e = moved_on (with_words y (feedback_by g z.k z.p e))

-- what is held with the frame f, of which the digits e are erased, put in at place a, and nothing decided yet
unfoldable pub held_with_frame : List ℕ → Held → Sizes → ℕ → ℕ → ℕ → Held
held_with_frame g h z a f e =
    let history = history_by h.history z.k f in
    record {
      history = history;
      syndromes = with_syndromes g history h.syndromes z a f;
      erased = record { registers = erased_with h.erased.registers h.erased.any e a; any = any_with h.erased.any e a };
    }

-- the decided errors of the frame that is decided next
abbrev pub errors_in : List ℕ → List ℕ → List ℕ → Held → Sizes → ℕ
errors_in g counts checks h z = decide_marked g counts checks h.syndromes h.erased.registers h.erased.any z

-- what is held with the decided errors e fed back, for the next frame
unfoldable pub next_held : List ℕ → Held → Sizes → ℕ → Held
next_held g h z e =
    record {
      history = h.history;
      syndromes = fed_back g h.syndromes z e;
      erased = record { registers = erased_moved h.erased.registers h.erased.any; any = h.erased.any / 2 };
    }

-- the digit of stream i that is handed out: the one m back, plus its decided error in e
unfoldable pub corrected_digit : List ℕ → ℕ → ℕ → ℕ → ℕ
corrected_digit h e m i = (bit (get_or h i 0) m + bit e i) % 2

-- the frame handed out
unfoldable pub corrected_by : List ℕ → ℕ → ℕ → ℕ → ℕ
corrected_by h e k m = from_digits k (corrected_digit h e m)

-- the ones of the first p registers
unfoldable pub ones_by : List ℕ → ℕ → ℕ
ones_by y p = sum_below p (λ j. ones (get_or y j 0))
