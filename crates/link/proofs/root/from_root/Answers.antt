use Rattle.std.proofs.Common.{sym, subst}
use Rattle.link.specs.Table.{Leads}
use Rattle.link.proofs.RootRow.{root_leads, root_within}
use Rattle.link.proofs.Walk.{child_answer, tree_chained}
use Rattle.link.proofs.root.from_root.Goals as goal

pub child_of-requires-clause-chained : goal.child_of-requires-clause-chained
child_of-requires-clause-chained g c = tree_chained c.args.table.now g.ss c.requires

pub returns : goal.returns
returns g c =
    let t = c.args.table.now in
    subst (Leads g.ss 0 c.args.byte) (sym c.unwrap_or.ensures) (root_leads g.ss c.args.byte _ c.requires.table.rooted (child_answer t g.ss c.requires 0 (root_within t g.ss c.requires) c.args.byte _ c.child_of.ensures))
