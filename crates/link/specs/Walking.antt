-- The children that a walk has left.
use Rattle.std.specs.Prelude.{ℕ, List, length}
use Rattle.link.specs.Children.{siblings}
use Rattle.link.specs.declared.children.Children.{Children}

-- the node where the walk is and its next siblings
abbrev pub children_left : Children → List (ℕ × ℕ)
children_left w = siblings w.table.now (length w.table.now) w.child
