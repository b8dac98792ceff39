use Rattle.std.proofs.Common.{arith}
use Rattle.link.proofs.Following.{back_on_the_way, back_shorter, back_within, found_child}
use Rattle.link.proofs.Walk.{child_answer, tree_chained}
use Rattle.link.proofs.follow.follow_to_top.Goals as goal

pub child_of-requires-clause-chained : goal.child_of-requires-clause-chained
child_of-requires-clause-chained g c = tree_chained c.args.table.now g.ss c.requires.0

pub loop-at-smaller : goal.loop-at-smaller
loop-at-smaller g c =
    let (tree, (backed, rest)) = c.requires in
    back_shorter c.args.table.now g.ss tree c.args.from c.args.byte c.loop-at.at backed c.loop-at.invariant.within c.loop-at.invariant.way (omega arith)

pub loop-at-preserved : goal.loop-at-preserved
loop-at-preserved g c =
    let (tree, (backed, rest)) = c.requires in
    let t = c.args.table.now in
    let at = c.loop-at.at in
    let within = c.loop-at.invariant.within in
    let way = c.loop-at.invariant.way in
    record {
      within = back_within t g.ss tree c.args.from c.args.byte at backed within way;
      way = back_on_the_way t g.ss tree c.args.from c.args.byte at backed within way (omega arith) (child_answer t g.ss tree at within c.args.byte _ c.in_default.ensures);
    }

pub returns-in-Some : goal.returns-in-Some
returns-in-Some g c =
    let (tree, (backed, rest)) = c.requires in
    let t = c.args.table.now in
    let within = c.loop-at.invariant.within in
    found_child t g.ss tree c.args.from c.args.byte c.loop-at.at backed within c.loop-at.invariant.way c.in-Some.child (child_answer t g.ss tree c.loop-at.at within c.args.byte _ c.in-Some.ensures)
