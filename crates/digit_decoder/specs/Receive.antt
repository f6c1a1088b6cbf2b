-- What a session does with a frame, exactly and for every session, those that no call of ours made among them: the numbers of streams are held to
-- what the tables have. Its calls are those of every receiving session (`receiving`, `Receive`); this is tied to the second rule by
-- proofs/Follow.antt.
-- Assumes nothing.
use Rattle.std.specs.Prelude.{ℕ}
use Rattle.code.specs.declared.Card.{Card}
use Rattle.receiving.specs.Receive.{sizes_in, Circuit, Holding, circuit_of}
use Rattle.receiving.specs.declared.Session.{Session}
use Rattle.digit_decoder.specs.Held.{nothing_held, held_with_frame, decided_in, next_held}
use Rattle.digit_decoder.specs.declared.Held.{Held}

-- the frame that is decided next, as it is decided
unfoldable pub frame_of : Card → Held → ℕ
frame_of c h = decided_in c.generators c.counts c.checks h (sizes_in c)

-- what it holds: that frame is handed out, and stands from then on in place of what was received
abbrev pub second_holding : Holding Held
second_holding =
    record {
      nothing = nothing_held;
      put_in = λ c h a f e. held_with_frame h a f e;
      handed_out = λ c h. frame_of c h;
      moved_on = λ c h. next_held h (frame_of c h);
    }

-- Massey's second circuit, the one that votes on digits
abbrev pub second_circuit : Circuit (Session Held)
second_circuit = circuit_of second_holding
