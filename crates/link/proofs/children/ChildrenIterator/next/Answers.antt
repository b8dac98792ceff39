use Rattle.std.proofs.Common.{ap, length, rules, arith}
use Rattle.link.proofs.Walk.{siblings-more}
use Rattle.link.proofs.children.ChildrenIterator.next.Goals as goal

pub returns-clause-steps : goal.returns-clause-steps
returns-clause-steps c = let w = c.args.self.now in siblings-more w.table.now w.chained w.child (omega arith) w.within

pub returns-clause-goes : goal.returns-clause-goes
returns-clause-goes c =
    let w = c.args.self.now in
    let fewer = ap length (siblings-more w.table.now w.chained w.child (omega arith) w.within) in
    search rules
