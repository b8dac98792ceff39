use Rattle.std.proofs.Common.{arith}
use Rattle.link.proofs.BackBuilding.{back_followed, from-backed, from-within}
use Rattle.link.proofs.back.back_of.Goals as goal

pub follow-requires : goal.follow-requires
follow-requires g c =
    let t = c.args.table.now in
    (c.requires.tree, (from-backed g.ws c.args.at t c.requires (omega arith), from-within g.ws c.args.at t c.requires))

pub returns : goal.returns
returns g c = record {
  within = omega (arith, c.requires.tree.size, from-within g.ws c.args.at c.args.table.now c.requires, c.follow.ensures.0);
  is = back_followed g.ws c.args.at c.args.table.now c.requires c.args.byte c.follow.result (omega arith) c.follow.ensures;
}
