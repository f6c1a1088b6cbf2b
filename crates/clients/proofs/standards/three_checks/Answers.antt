use mathlib.Core.Path.{◌∙◌}
use borrow.Author.Rules.{rules}
use Rattle.clients.proofs.StandardClauses.{three-given}
use Rattle.clients.proofs.standards.three_checks.Goals as goal

pub returns : goal.returns
returns c =
    let written = c.write_standard in
    written.ensures.output_after ∙ three-given written.ensures.standard_cards _ (search rules)
