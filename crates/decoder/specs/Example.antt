-- What follows for a session opened with card P from its claims, beside what follows for every receiving session (`receiving`, `Example`).
-- Assumes nothing.
use Rattle.std.specs.Prelude.{◌≡◌}
use Rattle.receiving.specs.Calls.{session_after}
use Rattle.receiving.specs.Example.{calls_p_first}
use Rattle.receiving.specs.declared.Session.{Session}
use Rattle.decoder.specs.Receive.{first_circuit, link_figure_of}
use Rattle.decoder.specs.declared.Held.{Held}

-- the link figure: the syndrome that the wrong digit leaves, before it is fed back
abbrev pub FigureOfP : Session Held → Type 0
FigureOfP s = link_figure_of (session_after first_circuit s calls_p_first) ≡ 1
