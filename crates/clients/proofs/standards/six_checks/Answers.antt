use mathlib.Core.Path.{ap, ◌∙◌}
use native.Mathlib.Omega.{arith}
use Rattle.std.specs.Prelude.{Ok}
use Rattle.code.specs.declared.Card.{Card}
use Rattle.standard.proofs.Cards.{standard-cards}
use Rattle.clients.proofs.StandardClauses.{six-is}
use Rattle.clients.proofs.standards.six_checks.Goals as goal

pub returns : goal.returns
returns c = c.each_is_accepted.ensures (omega arith) (omega arith) ∙ ap (λ (c : Card). Ok c) (six-is standard-cards)
