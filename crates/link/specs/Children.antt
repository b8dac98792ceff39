-- The children of a node, as a table links them.
use Rattle.std.specs.Prelude.{ℕ, zero, suc, ◌<◌, ◌==◌, List, [], ◌∷◌, length, find, None, Option}
use Rattle.std.specs.List.{last_or}
use Rattle.std.specs.Option.{option_map}
use Rattle.link.specs.Table.{node_at}
use Rattle.link.specs.declared.node.Node.{Node}

-- node c and its next siblings, at most n of these, each by its number and its byte
abbrev pub siblings : List Node → ℕ → ℕ → List (ℕ × ℕ)
siblings t zero c = []
siblings t (suc n) zero = []
siblings t (suc n) (suc c) = (suc c, (node_at t (suc c)).byte) ∷ siblings t n (node_at t (suc c)).next

-- the children of a node
abbrev pub children : List Node → ℕ → List (ℕ × ℕ)
children t at = siblings t (length t) (node_at t at).first

-- the first child of a node that has a byte
abbrev pub child_with : List Node → ℕ → ℕ → Option ℕ
child_with t at b = option_map (λ p. p.0) (find (λ p. p.1 == b) (children t at))

-- the last child of a node
abbrev pub last_child : List Node → ℕ → Option ℕ
last_child t at = option_map (λ p. p.0) (last_or None (children t at))

-- first children and next siblings are nodes of the table, and a next sibling has a higher number
pub record Chained (t : List Node) : Type 0 where
  pub first : (n : ℕ) → n < length t → (node_at t n).first < length t
  pub next : (n : ℕ) → 0 < n → n < length t → (node_at t n).next < length t
  pub rises : (n : ℕ) → 0 < n → n < length t → 0 < (node_at t n).next → n < (node_at t n).next
