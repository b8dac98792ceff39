-- What is answered of shift tables.
use Rattle.std.specs.Prelude.{◌≡◌, ℕ, Bool, true, false, ◌⊎◌, List, length, take, None, Result}
use Rattle.landmark.specs.Grammar.{words_of}
use Rattle.landmark.specs.declared.refusal.Fault.{Fault}
use Rattle.shift.specs.Building.{Builds, admission_fault}
use Rattle.shift.specs.Mounting.{Refuses}
use Rattle.shift.specs.Table.{entries, table_of}
use Rattle.bench_export.specs.Checksums.{checksum, used}

-- building does this to the table and answers so many numbers in use
abbrev pub Built : List ℕ → List ℕ → List ℕ → ℕ → Type 0
Built l before after r = (answer : Result ℕ Fault) × Builds l before after answer × (r ≡ used answer)

-- the table is accepted
abbrev pub Accepted : List ℕ → List ℕ → Type 0
Accepted l table = (admission_fault l (length table) ≡ None) × (take entries table ≡ table_of (words_of l))

-- mounting is refused
abbrev pub Refused : List ℕ → List ℕ → Type 0
Refused l table = (f : Fault) × Refuses l table f

-- whether mounting is accepted
abbrev pub Mounted : List ℕ → List ℕ → Bool → Type 0
Mounted l table true = Accepted l table
Mounted l table false = Refused l table

-- the checksum of the list's words in an image, 0 where mounting is refused
abbrev pub Ran : List ℕ → List ℕ → List ℕ → ℕ → Type 0
Ran l table image r = (Accepted l table × (r ≡ checksum (words_of l) image (length image))) ⊎ (Refused l table × (r ≡ 0))
