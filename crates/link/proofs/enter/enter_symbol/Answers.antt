use Rattle.link.proofs.Reaching.{none_there, reaches_chained, reaches_child, reaches_there}
use Rattle.link.proofs.enter.enter_symbol.Goals as goal

pub child_of-requires-clause-chained : goal.child_of-requires-clause-chained
child_of-requires-clause-chained c = reaches_chained c.requires.us c.requires.v _ _ c.args.from c.requires.reaches

pub returns-in-Some : goal.returns-in-Some
returns-in-Some c us v before reaches = reaches_there us v before _ c.args.from reaches c.args.symbol c.in-Some.node (reaches_child us v before _ c.args.from reaches c.args.symbol _ c.in-Some.ensures)

pub returns : goal.returns
returns c us v before reaches = c.add_child.ensures us v before reaches (none_there us v before _ c.args.from reaches c.args.symbol (reaches_child us v before _ c.args.from reaches c.args.symbol _ c.in_default.ensures))
