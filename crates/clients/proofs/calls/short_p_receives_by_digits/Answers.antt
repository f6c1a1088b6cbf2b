use mathlib.Core.Path.{refl}
use Rattle.clients.proofs.ReceiverClauses.{receives-nothing}
use Rattle.clients.proofs.calls.short_p_receives_by_digits.Goals as goal

pub returns : goal.returns
returns c = receives-nothing (λ c n. refl) c.open.ensures
