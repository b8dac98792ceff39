use Rattle.std.proofs.Common.{set, ap}
use Rattle.link.proofs.BackBuilding.{child-linked}
use Rattle.link.proofs.back.link_child.Goals as goal

pub returns : goal.returns
returns g c =
    let (ready, (child, small)) = c.requires in
    ap (set c.args.table.now c.args.child) (child-linked g.ws c.args.at c.args.table.now ready c.args.child c.back_of-back.result child c.back_of-back.ensures.is)
