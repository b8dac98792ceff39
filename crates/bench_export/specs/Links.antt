-- What is answered of link tables.
use Rattle.std.specs.Prelude.{◌≡◌, ℕ, Bool, true, false, ◌⊎◌, List, length, None, Result}
use Rattle.landmark.specs.Grammar.{words_of}
use Rattle.landmark.specs.declared.refusal.Fault.{Fault}
use Rattle.link.specs.Building.{Builds}
use Rattle.link.specs.Mounting.{BeginsRight, Refuses, size_fault}
use Rattle.link.specs.declared.node.Node.{Node}
use Rattle.bench_export.specs.Checksums.{checksum, used}
use Rattle.bench_export.specs.Scans.{Scans}

-- building does this to the table and answers so many entries in use
abbrev pub Built : List ℕ → List Node → List Node → ℕ → Type 0
Built l before after r = (answer : Result ℕ Fault) × Builds l before after answer × (r ≡ used answer)

-- the table is accepted
abbrev pub Accepted : List ℕ → List Node → Type 0
Accepted l table = (size_fault l (length table) ≡ None) × BeginsRight (words_of l) table

-- mounting is refused
abbrev pub Refused : List ℕ → List Node → Type 0
Refused l table = (f : Fault) × Refuses l table f

-- whether mounting is accepted
abbrev pub Mounted : List ℕ → List Node → Bool → Type 0
Mounted l table true = Accepted l table
Mounted l table false = Refused l table

-- the checksum of the list's words in an image, 0 where mounting is refused
abbrev pub Ran : List ℕ → List Node → List ℕ → ℕ → Type 0
Ran l table image r = (Accepted l table × (r ≡ checksum (words_of l) image (length image))) ⊎ (Refused l table × (r ≡ 0))

-- the checksum of all ends in an image, 0 where mounting or opening is refused
abbrev pub Scanned : List ℕ → List Node → List ℕ → ℕ → Type 0
Scanned l table image r = (Accepted l table × Scans (words_of l) l image r) ⊎ (Refused l table × (r ≡ 0))
