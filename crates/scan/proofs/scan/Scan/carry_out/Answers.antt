use Rattle.std.proofs.Common.{arith}
use Rattle.std.proofs.lemmas.Grind.{common_steps}
use Rattle.scan.proofs.Calling.{carried-out_so}
use Rattle.scan.proofs.scan.Scan.carry_out.Goals as goal

pub returns : goal.returns
returns g c = carried-out_so g.F.Finder c.args.self.now c.args.order c.settle.new.self c.map.result (grind (arith, common_steps))
