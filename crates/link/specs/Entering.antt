-- Words entered into a table, one symbol after another.
use Rattle.std.specs.Prelude.{◌≡◌, ℕ, ◌+◌, ◌*◌, ◌<◌, ◌≤◌, true, List, [], ◌∷◌, ◌++◌, length, take}
use Rattle.finder.specs.Words.{most_words, longest_word}
use Rattle.nodes.specs.Nodes.{strings, string, is_child, first_child, next_sibling, own_mask}
use Rattle.link.specs.Table.{Tree, node_at}
use Rattle.link.specs.declared.node.Node.{Node}
use Rattle.link.specs.declared.enter.Reached.{Reached}

-- of the children of node n, c comes behind m: m is 0 before the first, and c is 0 behind the last
pub record Behind (ss : List (List ℕ)) (n m c : ℕ) : Type 0 where
  pub within : m < length ss
  pub child : 0 < m → is_child (string ss n) (string ss m) ≡ true
  pub first : m ≡ 0 → c ≡ first_child ss (string ss n)
  pub next : 0 < m → c ≡ next_sibling ss m (string ss m)

-- the nodes of the strings ss, with the words us: the tree, a root without a back link, and each word at the node where it ends
pub record Entered (us ss : List (List ℕ)) (t : List Node) : Type 0 where
  pub tree : Tree t ss
  pub root : (node_at t 0).back ≡ 0
  pub mask : (n : ℕ) → n < length ss → (node_at t n).mask ≡ own_mask us (string ss n)

-- they are the first entries of a table that is otherwise as before
pub record InFront (us ss : List (List ℕ)) (count : ℕ) (before after : List Node) : Type 0 where
  pub size : count ≡ length ss
  pub entered : Entered us ss (take count after)
  pub rest : (n : ℕ) → count ≤ n → node_at after n ≡ node_at before n

-- the nodes of the words us are the first entries
abbrev pub Holds : List (List ℕ) → ℕ → List Node → List Node → Type 0
Holds us count before after = InFront us (strings us) count before after

-- behind the words us the symbols v are entered, and their node is reached
pub record Reaches (us : List (List ℕ)) (v : List ℕ) (before after : List Node) (r : Reached) : Type 0 where
  pub front : InFront us (strings (us ++ (v ∷ []))) r.count before after
  pub within : r.node < r.count
  pub node : string (strings (us ++ (v ∷ []))) r.node ≡ v

-- the root, and a node for each symbol of as many words as there may be
abbrev pub most_nodes : ℕ
most_nodes = 1 + most_words * longest_word

-- symbols are entered behind some words, and there is room for one more
pub record CanGrow (t : List Node) (r : Reached) : Type 0 where
  pub us : List (List ℕ)
  pub v : List ℕ
  pub reaches : Reaches us v t t r
  pub short : length v < longest_word
  pub room : r.count < length t
  pub few : r.count < most_nodes
