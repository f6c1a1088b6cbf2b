use Rattle.clients.proofs.RewritingClauses.{line-long, front-enough}
use borrow.Author.Rules.{rules}
use Rattle.clients.proofs.rewritings.longer_is_too_long.Goals as goal

pub returns : goal.returns
returns c =
    let promise = c.rewrite.ensures in
    record { line_is = line-long promise (search rules); by_the_front = front-enough promise (search rules); has_room = promise.wrote.within }
