use Rattle.std.proofs.Common.{◌<◌, length}
use Rattle.link.specs.Table.{node_at}
use Rattle.link.proofs.Following.{OnTheWay}
use Rattle.link.proofs.follow.follow_to_top.Given as goal

-- the byte leads from here to where it leads from the start
abbrev pub invariant-loop-at : goal.invariant-loop-at
invariant-loop-at g l = record { within : l.at < length l.table; way : OnTheWay g.ss l.from l.byte l.at }

abbrev pub decreases-loop-at : goal.decreases-loop-at
decreases-loop-at g l = (node_at l.table l.at).depth
