use Rattle.std.proofs.Common.{arith}
use Rattle.link.proofs.Whole.{all_done, start_done}
use Rattle.link.proofs.back.link_back.Goals as goal

pub loop-depth-init : goal.loop-depth-init
loop-depth-init g c = let (sized, (entered, small)) = c.requires in start_done g.ws sized c.args.table.now entered

pub returns : goal.returns
returns g c = all_done g.ws c.requires.0 c.loop-depth.depth c.loop-depth.table (omega arith) c.loop-depth.invariant
