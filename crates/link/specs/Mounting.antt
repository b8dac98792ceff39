-- Putting a link finder on a list and its table.
use Rattle.std.specs.Prelude.{◌≡◌, ℕ, ◌+◌, ◌≤◌, cond, ◌⊎◌, List, length, take, Some, None, Ok, Err, Option, Result, nat_lt}
use Rattle.finder.specs.Words.{at_rest}
use Rattle.landmark.specs.Grammar.{words_of}
use Rattle.landmark.specs.Lists.{fault, list_verdict}
use Rattle.landmark.specs.declared.list.Counts.{Counts}
use Rattle.landmark.specs.declared.refusal.Fault.{Fault}
use Rattle.landmark.specs.declared.refusal.Refusal.TheVariants.{EntryDiffers, TableTooSmall}
use Rattle.nodes.specs.Nodes.{strings}
use Rattle.link.specs.Building.{Builds}
use Rattle.link.specs.Comparing.{FirstWrong}
use Rattle.link.specs.Meaning.{halves_in, words_in}
use Rattle.link.specs.Table.{table_of}
use Rattle.link.specs.declared.link.LinkFinder.{LinkFinder}
use Rattle.link.specs.declared.node.Node.{Node}

-- the faults of a list come first, then too few entries for its run bytes and the root
abbrev pub fault_of : Result Counts Fault → ℕ → Option Fault
fault_of (Err f) entries = Some f
fault_of (Ok counts) entries = cond (nat_lt entries (counts.run_bytes + 1)) (Some (fault TableTooSmall (counts.run_bytes + 1))) None

-- why a list and so many entries of a table do not go together: none where they do
abbrev pub size_fault : List ℕ → ℕ → Option Fault
size_fault l entries = fault_of (list_verdict l) entries

-- why mounting is refused: by the sizes, or else at the first entry that is not the one that the list's words define
abbrev pub Refuses : List ℕ → List Node → Fault → Type 0
Refuses l table f = (size_fault l (length table) ≡ Some f) ⊎ ((size_fault l (length table) ≡ None) × (f.refusal ≡ EntryDiffers) × FirstWrong (words_of l) table f.detail)

-- the table begins with the one that the words define
abbrev pub BeginsRight : List (List ℕ) → List Node → Type 0
BeginsRight ws table = take (length (strings ws)) table ≡ table_of ws

-- mounting: on the table of the list's words the finder has these and is at rest; refused, it is as it was
abbrev pub Mounts : List ℕ → List Node → LinkFinder → LinkFinder → Result Unit Fault → Type 0
Mounts l table before after (Ok done) =
    (size_fault l (length table) ≡ None) × BeginsRight (words_of l) table × (words_in after ≡ words_of l) × (halves_in after ≡ at_rest (words_of l)) × (after.at ≡ 0)
Mounts l table before after (Err f) = Refuses l table f × (after ≡ before)

-- a new finder on a list and its table is as one that is mounted on them
abbrev pub MountsNew : List ℕ → List Node → Result LinkFinder Fault → Type 0
MountsNew l table (Ok s) = Mounts l table s s (Ok tt)
MountsNew l table (Err f) = Refuses l table f

-- a table that begins with the one that the words of a good list define is accepted
abbrev pub AcceptsRight : List ℕ → List Node → Result Unit Fault → Type 0
AcceptsRight l table r = (counts : Counts) → list_verdict l ≡ Ok counts → counts.run_bytes + 1 ≤ length table → BeginsRight (words_of l) table → r ≡ Ok tt

-- so is a table that was built for the list
abbrev pub AcceptsBuilt : List ℕ → List Node → Result Unit Fault → Type 0
AcceptsBuilt l table r = (before : List Node) (used : ℕ) → Builds l before table (Ok used) → r ≡ Ok tt
