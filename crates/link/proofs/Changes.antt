-- Nodes with some fields changed.
use Rattle.std.proofs.Common.{ℕ}
use Rattle.link.specs.declared.node.Node.{Node}

-- with other links to a child and a sibling
abbrev pub with_links : Node → ℕ → ℕ → Node
with_links x first next = record { depth = x.depth; byte = x.byte; first = first; next = next; back = x.back; mask = x.mask }

-- with another back link and mask
abbrev pub with_back : Node → ℕ → ℕ → Node
with_back x back mask = record { depth = x.depth; byte = x.byte; first = x.first; next = x.next; back = back; mask = mask }

-- a new node, without children
abbrev pub leaf : ℕ → ℕ → Node
leaf depth b = record { depth = depth; byte = b; first = 0; next = 0; back = 0; mask = 0 }
