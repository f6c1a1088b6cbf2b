use mathlib.Core.Path.{ap}
use Rattle.std.specs.Prelude.{Result}
use Rattle.code.specs.declared.Card.{Card}
use Rattle.card.specs.Outcome.{outcome_of, card_in}
use Rattle.card.specs.declared.Fault.{Fault}
use Rattle.clients.proofs.CardClauses.{bytes_of-P, value-of-P}
use Rattle.clients.proofs.cards.p_has_one_form.Goals as goal

pub returns : goal.returns
returns c =
    let promise = c.read_card.ensures in
    record {
      bytes_are = λ e. bytes_of-P promise (ap (λ (r : Result Card Fault). outcome_of r) e) (ap (λ (r : Result Card Fault). card_in r) e);
      card_is = value-of-P promise;
    }
