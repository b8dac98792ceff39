use Rattle.std.proofs.Common.{arith}
use Rattle.bits.proofs.LowestLaws.{lowest}
use Rattle.bits.proofs.take_lowest.Goals as goal

pub returns : goal.returns
returns c = lowest c.args.bits.now (omega arith) (omega arith)
