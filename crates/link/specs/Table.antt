-- The node table that words define.
use Rattle.std.specs.Prelude.{◌≡◌, ℕ, suc, ◌<◌, ◌≤◌, List, [], ◌∷◌, ◌++◌, length, Some, None, Option, slice_index, slice_index_or}
use Rattle.std.specs.List.{ContainsAt as Has}
use Rattle.nodes.specs.Nodes.{strings, string, last_byte, first_child, next_sibling, back_link, suffix_mask, step}
use Rattle.nodes.specs.Tables as T
use Rattle.link.specs.declared.node.Node.{Node}

-- the node with number n and string s, in the table of the words ws, whose strings are ss
abbrev pub node_of : List (List ℕ) → List (List ℕ) → ℕ → List ℕ → Node
node_of ws ss n s = record {
  depth = length s;
  byte = last_byte s;
  first = first_child ss s;
  next = next_sibling ss n s;
  back = back_link ss s;
  mask = suffix_mask ws s;
}

-- the nodes of strings that are numbered from n on
abbrev pub nodes_from : List (List ℕ) → List (List ℕ) → ℕ → List (List ℕ) → List Node
nodes_from ws ss n [] = []
nodes_from ws ss n (s ∷ rest) = node_of ws ss n s ∷ nodes_from ws ss (suc n) rest

-- the table of the words
abbrev pub table_of : List (List ℕ) → List Node
table_of ws = nodes_from ws (strings ws) 0 (strings ws)

abbrev pub no_node : Node
no_node = record { depth = 0; byte = 0; first = 0; next = 0; back = 0; mask = 0 }

abbrev pub node_at : List Node → ℕ → Node
node_at t n = slice_index_or t n no_node

-- the tree of the strings stands in the table: depths, bytes, children and siblings
pub record Tree (t : List Node) (ss : List (List ℕ)) : Type 0 where
  pub table : T.Table ss
  pub size : length t ≡ length ss
  pub depth : (n : ℕ) → n < length ss → (node_at t n).depth ≡ length (string ss n)
  pub byte : (n : ℕ) → n < length ss → (node_at t n).byte ≡ last_byte (string ss n)
  pub first : (n : ℕ) → n < length ss → (node_at t n).first ≡ first_child ss (string ss n)
  pub next : (n : ℕ) → n < length ss → (node_at t n).next ≡ next_sibling ss n (string ss n)

-- the nodes whose strings are at most so long have their back links
abbrev pub Backed : List Node → List (List ℕ) → ℕ → Type 0
Backed t ss most = (n : ℕ) → n < length ss → length (string ss n) ≤ most → (node_at t n).back ≡ back_link ss (string ss n)

-- the child of node n with byte b, or none where there is no such
abbrev pub Child : List (List ℕ) → ℕ → ℕ → Option ℕ → Type 0
Child ss n b (Some c) = (c < length ss) × (string ss c ≡ string ss n ++ (b ∷ []))
Child ss n b None = Has ss (string ss n ++ (b ∷ [])) → ⊥

-- the node that byte b leads to from node n
abbrev pub Leads : List (List ℕ) → ℕ → ℕ → ℕ → Type 0
Leads ss n b r = (r < length ss) × (string ss r ≡ step ss (string ss n) b)

-- a row of the nodes that bytes lead to from the root: its child for the byte, or 0 where there is none
abbrev pub RootRow : List (List ℕ) → List ℕ → Type 0
RootRow ss row = (b : ℕ) → Leads ss 0 b (slice_index row b)
