use Rattle.nodes.proofs.Laws.{failure_law}
use Rattle.nodes.proofs.failure_law.Goals as goal

pub returns : goal.returns
returns c = failure_law
