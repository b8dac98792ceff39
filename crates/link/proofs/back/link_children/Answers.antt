use Rattle.std.proofs.Common.{arith}
use Rattle.link.proofs.Linking.{linked_falls, linked_more, linked_none, open_next, ready_next}
use Rattle.link.proofs.back.link_children.Goals as goal

pub loop-child-init : goal.loop-child-init
loop-child-init g c = linked_none g.ws c.args.at c.args.table.now c.requires.0

pub link_child-requires : goal.link_child-requires
link_child-requires g c =
    let t = c.args.table.now in
    let linked = c.loop-child.invariant in
    (ready_next g.ws c.args.at t c.requires.0 _ _ (omega arith) linked, (open_next g.ws c.args.at t c.requires.0 _ _ (omega arith) linked, omega arith))

pub loop-child-smaller : goal.loop-child-smaller
loop-child-smaller g c = linked_falls g.ws c.args.at c.args.table.now c.requires.0 _ _ (omega arith) c.loop-child.invariant _ c.link_child.ensures

pub loop-child-preserved : goal.loop-child-preserved
loop-child-preserved g c = linked_more g.ws c.args.at c.args.table.now c.requires.0 _ _ (omega arith) c.loop-child.invariant _ c.link_child.ensures
