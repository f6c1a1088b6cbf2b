-- What holds of any list of receiving calls, refused ones included, on a session freshly opened with the card c: what holds of every receiving session,
-- with Massey's majority rule with feedback and erased digits (`majority`, `Rule`), and the link figure of document 01, "Checks".
-- Assumes nothing.
use Rattle.std.specs.Prelude.{◌≡◌, List}
use Rattle.code.specs.declared.Card.{Card}
use Rattle.majority.specs.AsSent.{Correctable}
use Rattle.majority.specs.Rule.{decoded, figure_by}
use Rattle.receiving.specs.Calls.{Call, taken_frames, taken_erased, session_after}
use Rattle.receiving.specs.Claims.{ByRule}
use Rattle.receiving.specs.declared.Session.{Session}
use Rattle.decoder.specs.Receive.{first_circuit, link_figure_of}
use Rattle.decoder.specs.declared.Held.{Held}

pub record Claims (c : Card) (s : Session Held) : Type 0 where
  -- the rule and the third term
  pub by_rule : ByRule first_circuit decoded Correctable c s
  -- the link figure is the rule's
  pub figure_by_rule : (calls : List Call)
      → link_figure_of (session_after first_circuit s calls) ≡ figure_by c (taken_frames first_circuit s calls) (taken_erased first_circuit s calls)
