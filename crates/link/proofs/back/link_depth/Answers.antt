use Rattle.std.proofs.Common.{sym, subst, arith}
use Rattle.link.specs.Backing.{Finishes}
use Rattle.link.proofs.Descending.{depth_all, depth_more, depth_ready, depth_same}
use Rattle.link.proofs.back.link_depth.Goals as goal
use Rattle.link.proofs.back.link_depth.Goals.{then-table-at, else-table-at}

pub link_children-requires : goal.link_children-requires
link_children-requires g c = (depth_ready g.ws c.args.depth c.args.table.now c.requires.0 c.loop-at.at c.loop-at.table (omega arith) c.loop-at.invariant c.if-table-at.true, omega arith)

pub loop-at-preserved : goal.loop-at-preserved
loop-at-preserved g c =
    let d = c.args.depth in
    let t = c.args.table.now in
    let at = c.loop-at.at in
    let u = c.loop-at.table in
    let done = c.loop-at.invariant in
    elim c.if-table-at.branch [
      | then-table-at w ↦ subst (Finishes g.ws _ t) (sym w.table-is) (depth_more g.ws d t c.requires.0 at u (omega arith) done _ w.if-table-at.true w.link_children.ensures)
      | else-table-at w ↦ subst (Finishes g.ws _ t) (sym w.table-is) (depth_same g.ws d t c.requires.0 at u (omega arith) done w.if-table-at.false)
    ]

pub returns : goal.returns
returns g c = depth_all g.ws c.args.depth c.args.table.now c.requires.0 c.loop-at.at c.loop-at.table (omega arith) c.loop-at.invariant
