use Rattle.link.specs.Backing.{FinishedUpto}
use Rattle.link.proofs.back.link_back.Given as goal

abbrev pub ghost-link_depth : goal.ghost-link_depth
ghost-link_depth g a = g.ws

-- the nodes up to this depth are finished
abbrev pub invariant-loop-depth : goal.invariant-loop-depth
invariant-loop-depth g l = FinishedUpto g.ws l.depth l.table
