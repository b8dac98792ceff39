use Rattle.nodes.specs.Nodes.{strings}
use Rattle.link.specs.Backing.{Finishes}
use Rattle.link.proofs.Descending.{born_before}
use Rattle.link.proofs.back.link_depth.Given as goal

abbrev pub ghost-link_children : goal.ghost-link_children
ghost-link_children g a = g.ws

-- the children of the nodes of the depth before this one are finished
abbrev pub invariant-loop-at : goal.invariant-loop-at
invariant-loop-at g l = Finishes g.ws (born_before (strings g.ws) l.depth l.at) l.initial.table l.table
