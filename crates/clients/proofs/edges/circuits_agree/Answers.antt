use Rattle.majority.proofs.SecondCircuit as second
use Rattle.clients.proofs.edges.circuits_agree.Goals as goal

pub returns : goal.returns
returns c = second.circuits-agree
