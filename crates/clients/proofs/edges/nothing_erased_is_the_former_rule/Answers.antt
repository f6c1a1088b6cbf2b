use Rattle.majority.proofs.Plain.{former}
use Rattle.clients.proofs.edges.nothing_erased_is_the_former_rule.Goals as goal

pub returns : goal.returns
returns c = λ card G frames erased u i li none. former card erased u none G i li frames
