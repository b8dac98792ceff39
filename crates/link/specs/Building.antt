-- Building a table from a list.
use Rattle.std.specs.Prelude.{◌≡◌, ℕ, ◌+◌, cond, List, ◌++◌, length, drop, Some, None, Ok, Err, Option, Result, nat_lt}
use Rattle.landmark.specs.Grammar.{sizes, words_of}
use Rattle.landmark.specs.Lists.{fault, list_verdict}
use Rattle.landmark.specs.Records.{or_else}
use Rattle.landmark.specs.declared.list.Counts.{Counts}
use Rattle.landmark.specs.declared.refusal.Fault.{Fault}
use Rattle.landmark.specs.declared.refusal.Refusal.TheVariants.{TableTooSmall}
use Rattle.nodes.specs.Nodes.{strings}
use Rattle.link.specs.Table.{table_of}
use Rattle.link.specs.declared.node.Node.{Node}

-- the list's first fault
abbrev pub list_fault : Result Counts Fault → Option Fault
list_fault (Ok counts) = None
list_fault (Err f) = Some f

-- a table of so many entries that needs more
abbrev pub no_room : ℕ → ℕ → Option Fault
no_room size needed = cond (nat_lt size needed) (Some (fault TableTooSmall needed)) None

-- why a building is refused: a fault of the list comes before want of room, which is one entry for the root and one for each run byte
abbrev pub build_refusal : List ℕ → ℕ → Option Fault
build_refusal l size = or_else (list_fault (list_verdict l)) (no_room size (sizes (words_of l) + 1))

-- building: the table of the list's words is put in front, and the entries behind it are untouched; or a refusal, and nothing is touched
abbrev pub Builds : List ℕ → List Node → List Node → Result ℕ Fault → Type 0
Builds l before after (Ok n) = (build_refusal l (length before) ≡ None) × (n ≡ length (strings (words_of l))) × (after ≡ table_of (words_of l) ++ drop n before)
Builds l before after (Err f) = (build_refusal l (length before) ≡ Some f) × (after ≡ before)
