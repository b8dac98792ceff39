use Rattle.occurrence.proofs.PartsLaws.{occurs-in_parts}
use Rattle.occurrence.proofs.occurs_in_parts.Goals as goal

pub returns : goal.returns
returns c = occurs-in_parts
