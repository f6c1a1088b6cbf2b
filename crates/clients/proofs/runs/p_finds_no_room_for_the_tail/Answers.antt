use mathlib.Core.Path.{◌∙◌}
use borrow.Author.Rules.{rules}
use Rattle.outcomes.proofs.Answers.{outcome_is}
use Rattle.clients.proofs.RunClauses.{no_room-for-the-tail}
use Rattle.clients.proofs.runs.p_finds_no_room_for_the_tail.Goals as goal

pub returns : goal.returns
returns c =
    let run = c.session_send in
    outcome_is run.result _ run.type_inv (run.ensures ∙ no_room-for-the-tail _ (search rules))
