-- Back links and joined masks, from the root down.
use Rattle.std.specs.Prelude.{◌≡◌, ℕ, ◌<◌, ◌≤◌, Bool, true, cond, List, length}
use Rattle.finder.specs.Words.{WellSized, word}
use Rattle.nodes.specs.Nodes.{strings, string, is_child, own_mask}
use Rattle.link.specs.Table.{Tree, node_at, node_of}
use Rattle.link.specs.declared.node.Node.{Node}

-- node n in the table of the words
abbrev pub finished : List (List ℕ) → ℕ → Node
finished ws n = node_of ws (strings ws) n (string (strings ws) n)

-- node n is marked with its own words only
abbrev pub Marked : List (List ℕ) → ℕ → List Node → Type 0
Marked ws n t = (node_at t n).mask ≡ own_mask ws (string (strings ws) n)

-- node n is a child of node `at`
abbrev pub child_of : List (List ℕ) → ℕ → ℕ → Bool
child_of ws at n = is_child (string (strings ws) at) (string (strings ws) n)

-- the nodes up to the depth of node `at` are as in the table of the words
pub record Ready (ws : List (List ℕ)) (at : ℕ) (t : List Node) : Type 0 where
  pub tree : Tree t (strings ws)
  pub within : at < length (strings ws)
  pub done : (n : ℕ) → n < length (strings ws) → length (string (strings ws) n) ≤ length (string (strings ws) at) → node_at t n ≡ finished ws n

-- node n is a child of node `at`, and not linked yet
pub record OpenChild (ws : List (List ℕ)) (at n : ℕ) (t : List Node) : Type 0 where
  pub within : n < length (strings ws)
  pub child : child_of ws at n ≡ true
  pub own : Marked ws n t

-- no child of node `at` is linked yet
pub record ReadyChildren (ws : List (List ℕ)) (at : ℕ) (t : List Node) : Type 0 where
  pub ready : Ready ws at t
  pub own : (n : ℕ) → n < length (strings ws) → child_of ws at n ≡ true → Marked ws n t

-- the nodes that pass are then as in the table of the words, and the others as before
pub record Finishes (ws : List (List ℕ)) (passes : ℕ → Bool) (before after : List Node) : Type 0 where
  pub size : length after ≡ length before
  pub node : (n : ℕ) → n < length (strings ws) → node_at after n ≡ cond (passes n) (finished ws n) (node_at before n)

-- the nodes up to a depth are as in the table of the words, and those below are not linked yet
pub record FinishedUpto (ws : List (List ℕ)) (depth : ℕ) (t : List Node) : Type 0 where
  pub tree : Tree t (strings ws)
  pub done : (n : ℕ) → n < length (strings ws) → length (string (strings ws) n) ≤ depth → node_at t n ≡ finished ws n
  pub own : (n : ℕ) → n < length (strings ws) → depth < length (string (strings ws) n) → Marked ws n t

-- every word has symbols, and no more than a word may have
abbrev pub AllSized : List (List ℕ) → Type 0
AllSized ws = (k : ℕ) → k < length ws → WellSized (word ws k)
