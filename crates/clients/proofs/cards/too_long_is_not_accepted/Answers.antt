use native.Mathlib.Omega.{arith}
use Rattle.clients.proofs.cards.too_long_is_not_accepted.Goals as goal

pub returns : goal.returns
returns c = λ e. omega (arith, c.read_card.ensures.length_most e)
