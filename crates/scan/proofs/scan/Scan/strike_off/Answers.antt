use Rattle.std.proofs.Common.{rules}
use Rattle.scan.proofs.Calling.{struck_off_so}
use Rattle.scan.proofs.scan.Scan.strike_off.Goals as goal

pub returns : goal.returns
returns g c = struck_off_so g.F.Finder c.args.self.now c.args.order c.settle.new.self c.map.result (search rules)
