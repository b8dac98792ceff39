use Rattle.nodes.proofs.Laws.{position-law}
use Rattle.nodes.proofs.position_law.Goals as goal

pub returns : goal.returns
returns c = position-law
