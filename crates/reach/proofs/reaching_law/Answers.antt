use Rattle.reach.proofs.Reaching.{reaching_law}
use Rattle.reach.proofs.reaching_law.Goals as goal

pub returns : goal.returns
returns c = reaching_law
