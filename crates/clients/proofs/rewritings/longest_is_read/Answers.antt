use Rattle.clients.proofs.RewritingClauses.{read_whole}
use borrow.Author.Rules.{rules}
use Rattle.clients.proofs.rewritings.longest_is_read.Goals as goal

pub returns : goal.returns
returns c = read_whole c.rewrite.ensures (search rules)
