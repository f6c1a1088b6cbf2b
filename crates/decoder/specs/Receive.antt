-- What a session does with a frame, exactly and for every session, those that no call of ours made among them: the numbers of streams are held to
-- what the tables have. Its calls are those of every receiving session (`receiving`, `Receive`); this is tied to the rule by proofs/Follow.antt.
-- Assumes nothing.
use Rattle.std.specs.Prelude.{ℕ}
use Rattle.code.specs.declared.Card.{Card}
use Rattle.receiving.specs.Receive.{sizes_in, Circuit, Holding, circuit_of}
use Rattle.receiving.specs.declared.Session.{Session}
use Rattle.decoder.specs.Held.{nothing_held, held_with_frame, errors_in, next_held, corrected_by, ones_by}
use Rattle.decoder.specs.declared.Held.{Held}

-- the decided errors of the frame that is decided next
unfoldable pub errors_of : Card → Held → ℕ
errors_of c h = errors_in c.generators c.counts c.checks h (sizes_in c)

-- what it holds: that frame is handed out with these errors, which are then fed back
abbrev pub first_holding : Holding Held
first_holding =
    record {
      nothing = nothing_held;
      put_in = λ c h a f e. held_with_frame c.generators h (sizes_in c) a f e;
      handed_out = λ c h. corrected_by h.history (errors_of c h) (sizes_in c).k c.m;
      moved_on = λ c h. next_held c.generators h (sizes_in c) (errors_of c h);
    }

-- Massey's first circuit, the one that votes on syndromes
abbrev pub first_circuit : Circuit (Session Held)
first_circuit = circuit_of first_holding

-- the link figure
unfoldable pub link_figure_of : Session Held → ℕ
link_figure_of s = ones_by s.held.syndromes (sizes_in s.card).p
