-- Comparing a table with the one that the words define.
use Rattle.std.specs.Prelude.{◌≡◌, ℕ, suc, ◌<◌, List, length, Some, None, Ok, Err, Option, Result}
use Rattle.landmark.specs.declared.refusal.Fault.{Fault}
use Rattle.landmark.specs.declared.refusal.Refusal.TheVariants.{EntryDiffers}
use Rattle.nodes.specs.Nodes.{strings}
use Rattle.link.specs.Shape.{base_of}
use Rattle.link.specs.Table.{node_at, table_of}
use Rattle.link.specs.declared.node.Node.{Node}

-- entry n is the one that the words define
abbrev pub RightAt : List (List ℕ) → List Node → ℕ → Type 0
RightAt ws table n = node_at table n ≡ node_at (table_of ws) n

-- so are the entries before entry n
abbrev pub RightBefore : List (List ℕ) → List Node → ℕ → Type 0
RightBefore ws table n = (m : ℕ) → m < n → RightAt ws table m

-- n is the first entry in use that is not
pub record FirstWrong (ws : List (List ℕ)) (table : List Node) (n : ℕ) : Type 0 where
  pub within : n < length (strings ws)
  pub before : RightBefore ws table n
  pub wrong : RightAt ws table n → ⊥

-- the first wrong entry of the nodes that the words up to word k make
abbrev pub WrongUpto : List (List ℕ) → List Node → ℕ → Option ℕ → Type 0
WrongUpto ws table k None = RightBefore ws table (base_of ws (suc k))
WrongUpto ws table k (Some n) = FirstWrong ws table n

-- what a comparison answers: how many entries are in use, all right, or the first wrong one
abbrev pub Compares : List (List ℕ) → List Node → Result ℕ Fault → Type 0
Compares ws table (Ok used) = (used ≡ length (strings ws)) × RightBefore ws table (length (strings ws))
Compares ws table (Err f) = (f.refusal ≡ EntryDiffers) × FirstWrong ws table f.detail
