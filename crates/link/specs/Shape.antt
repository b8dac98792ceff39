-- How the words make the nodes: what each word shares with those before it, and the numbers of the nodes that it adds.
use Rattle.std.specs.Prelude.{◌≡◌, ℕ, suc, ◌+◌, ◌-◌, ◌<◌, ◌≤◌, List, ◌++◌, length, take, drop, Some, None, Option, slice_index_or}
use Rattle.finder.specs.Words.{word}
use Rattle.nodes.specs.Nodes.{strings, shared, lowest, is_child}
use Rattle.link.specs.declared.shape.Part.{Part}

-- w is s, then some bytes
abbrev pub BeginsWith : List ℕ → List ℕ → Type 0
BeginsWith w s = (rest : List ℕ) × (w ≡ s ++ rest)

-- no word before word i begins with s
abbrev pub NoneBefore : List (List ℕ) → List ℕ → ℕ → Type 0
NoneBefore ws s i = (j : ℕ) → j < i → BeginsWith (word ws j) s → ⊥

-- the lowest word before word k that begins with s
abbrev pub FirstWith : List (List ℕ) → List ℕ → ℕ → Option ℕ → Type 0
FirstWith ws s k (Some i) = (i < k) × BeginsWith (word ws i) s × NoneBefore ws s i
FirstWith ws s k None = NoneBefore ws s k

-- how many first bytes of word k a word before it begins with
abbrev pub shared_by : List (List ℕ) → ℕ → ℕ
shared_by ws k = shared (strings (take k ws)) (word ws k)

-- how many nodes the words before word k make, with the root: the number of the first node that word k makes
abbrev pub base_of : List (List ℕ) → ℕ → ℕ
base_of ws k = length (strings (take k ws))

-- word k makes the node of its first d bytes
pub record Makes (ws : List (List ℕ)) (k d : ℕ) : Type 0 where
  pub inside : k < length ws
  pub above : shared_by ws k < d
  pub within : d ≤ length (word ws k)

-- the number of that node
abbrev pub made_by : List (List ℕ) → ℕ → ℕ → ℕ
made_by ws k d = base_of ws k + (d - shared_by ws k - 1)

-- word j branches off behind the first d bytes of word k: it shares these and no more, and goes on
pub record Branches (ws : List (List ℕ)) (k d j : ℕ) : Type 0 where
  pub begins : BeginsWith (word ws j) (take d (word ws k))
  pub shares : shared_by ws j ≡ d
  pub longer : d < length (word ws j)

-- the lowest-numbered child of the first d bytes of word k among the nodes that words behind it make, or 0
abbrev pub branch_of : List (List ℕ) → ℕ → ℕ → ℕ
branch_of ws k d = lowest (base_of ws (suc k)) (drop (base_of ws (suc k)) (strings ws)) (is_child (take d (word ws k)))

-- what word k adds to the nodes
abbrev pub part_of : List (List ℕ) → ℕ → Part
part_of ws k = record { shared = shared_by ws k; base = base_of ws k }

-- the parts of the first words
abbrev pub PartsOf : List (List ℕ) → List Part → Type 0
PartsOf ws parts = (k : ℕ) (d : Part) → k < length parts → slice_index_or parts k d ≡ part_of ws k

-- the parts of all words, and how many nodes there are
pub record Shaped (ws : List (List ℕ)) (parts : List Part) (count : ℕ) : Type 0 where
  pub each : PartsOf ws parts
  pub all : length parts ≡ length ws
  pub nodes : count ≡ length (strings ws)
