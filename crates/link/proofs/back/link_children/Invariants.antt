use Rattle.std.proofs.Common.{length}
use Rattle.link.proofs.Following.{left}
use Rattle.link.proofs.Linking.{LinkedUpto}
use Rattle.link.proofs.back.link_children.Given as goal

abbrev pub ghost-link_child : goal.ghost-link_child
ghost-link_child g a = g.ws

-- the children before this one are finished
abbrev pub invariant-loop-child : goal.invariant-loop-child
invariant-loop-child g l = LinkedUpto g.ws l.at l.child l.initial.table l.table

abbrev pub decreases-loop-child : goal.decreases-loop-child
decreases-loop-child g l = left (length l.table) l.child
