use Rattle.std.proofs.Common.{◌≡◌, length}
use Rattle.link.specs.Walking.{children_left}
use Rattle.link.proofs.RootRow.{RowBefore}
use Rattle.link.proofs.root.root_row.Given as goal

-- the row has the children before those that are left, and a place for each byte
abbrev pub invariant-loop-child : goal.invariant-loop-child
invariant-loop-child g l = record { size : length l.row ≡ 256; upto : RowBefore l.table g.ss l.row (children_left l.child-iterator) }
