-- What opening a session promises, in the published numbers.
-- Assumes nothing.
use Rattle.std.specs.Prelude.{ℕ, List}
use Rattle.card.specs.Outcome.{outcome_of}
use Rattle.card.specs.declared.Opened.{Opened}
use Rattle.receiving.specs.Opening.{Opens}
use Rattle.receiving.specs.declared.Session.{Session}
use Rattle.digit_decoder.specs.Claims.{Claims}
use Rattle.digit_decoder.specs.Receive.{second_circuit}
use Rattle.digit_decoder.specs.declared.Held.{Held}

abbrev pub OpenPromise : List ℕ → Opened (Session Held) → Type 0
OpenPromise bytes r = Opens second_circuit Claims bytes (outcome_of r.verdict) r.session
