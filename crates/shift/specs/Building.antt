-- Building a table: its refusals, and what is written.
use Rattle.std.specs.Prelude.{◌≡◌, ℕ, Bool, cond, ◌≤◌, List, ◌++◌, length, drop, Some, None, Ok, Err, Option, Result, nat_lt}
use Rattle.landmark.specs.Grammar.{words_of}
use Rattle.landmark.specs.Lists.{fault, list_verdict}
use Rattle.landmark.specs.Records.{or_else}
use Rattle.landmark.specs.declared.list.Counts.{Counts}
use Rattle.landmark.specs.declared.refusal.Fault.{Fault}
use Rattle.landmark.specs.declared.refusal.Refusal.{Refusal}
use Rattle.landmark.specs.declared.refusal.Refusal.TheVariants.{TooManyRunBytes, TableTooSmall}
use Rattle.words.specs.Index.{indexed}
use Rattle.shift.specs.Table.{entries, most_run_bytes, table_of, TellsPlaces}
use Rattle.shift.specs.declared.narrow.Narrow.{Narrow}

-- a fault, where it applies
abbrev pub line : Bool → Refusal → ℕ → Option Fault
line applies why detail = cond applies (Some (fault why detail)) None

-- why the counts of a list and so many numbers of a table do not go together: first too many run bytes, then too few numbers
abbrev pub size_fault : Counts → ℕ → Option Fault
size_fault counts numbers = or_else (line (nat_lt most_run_bytes counts.run_bytes) TooManyRunBytes counts.run_bytes) (line (nat_lt numbers entries) TableTooSmall entries)

-- the faults of a list come first
abbrev pub fault_of : Result Counts Fault → ℕ → Option Fault
fault_of (Err f) numbers = Some f
fault_of (Ok counts) numbers = size_fault counts numbers

-- why a list and so many numbers of a table are refused, the earliest fault: none where they are not
abbrev pub admission_fault : List ℕ → ℕ → Option Fault
admission_fault l numbers = fault_of (list_verdict l) numbers

-- what an admission answers: the list's words, and that the table has enough numbers
abbrev pub Admits : List ℕ → ℕ → Result Narrow Fault → Type 0
Admits l numbers (Ok words) = (admission_fault l numbers ≡ None) × (entries ≤ numbers) × (indexed words.index ≡ words_of l)
Admits l numbers (Err f) = admission_fault l numbers ≡ Some f

-- building: the numbers of the list's words over the first of the table, or a refusal, and the table is as it was
abbrev pub Builds : List ℕ → List ℕ → List ℕ → Result ℕ Fault → Type 0
Builds l before after (Ok written) = (admission_fault l (length before) ≡ None) × (written ≡ entries) × (after ≡ table_of (words_of l) ++ drop entries before)
Builds l before after (Err f) = (admission_fault l (length before) ≡ Some f) × (after ≡ before)

-- a table that was built says where each byte value stands
abbrev pub BuiltTells : List ℕ → List ℕ → Result ℕ Fault → Type 0
BuiltTells l after (Ok written) = TellsPlaces (words_of l) after
BuiltTells l after (Err f) = Unit
