-- What it says that a list and a table go together.
use Rattle.std.proofs.Common.{◌≡◌, ℕ, ◌≤◌, List, None, Ok, Err, Result, refl, arith}
use Rattle.std.proofs.lemmas.Bool.Decides.{nat_tests}
use Rattle.landmark.specs.Grammar.{sizes, words_of}
use Rattle.landmark.specs.Lists.{list_verdict}
use Rattle.landmark.specs.declared.list.Counts.{Counts}
use Rattle.landmark.specs.declared.refusal.Fault.{Fault}
use Rattle.words.specs.Index.{Indexes, indexed}
use Rattle.words.specs.declared.words.Words.{Words}
use Rattle.shift.specs.Table.{entries, most_run_bytes}
use Rattle.shift.specs.Building.{size_fault, fault_of, admission_fault}

-- few run bytes and enough numbers, where the sizes have no fault
sizes-fit : (counts : Counts) (numbers : ℕ) → size_fault counts numbers ≡ None → (counts.run_bytes ≤ most_run_bytes) × (entries ≤ numbers)
sizes-fit counts numbers none = (grind (arith, nat_tests), grind (arith, nat_tests))

-- the words of an admitted list are indexed, they have few bytes, and the table has enough numbers
pub record Admitted (l : List ℕ) (numbers : ℕ) (w : Words) : Type 0 where
  pub words : indexed w ≡ words_of l
  pub narrow : sizes (indexed w) ≤ most_run_bytes
  pub enough : entries ≤ numbers

-- by the verdict on the list
admitted_by : (l : List ℕ) (numbers : ℕ) (w : Words) (verdict : Result Counts Fault) → list_verdict l ≡ verdict → fault_of verdict numbers ≡ None → Indexes l w → Admitted l numbers w
admitted_by l numbers w (Ok counts) is none index =
    let (few, enough) = sizes-fit counts numbers none in
    let (words, total) = index.all counts is in
    record { words = words; narrow = omega arith; enough = enough }
admitted_by l numbers w (Err f) is none index = let z : ◌≡◌ {A = ℕ} 0 1 = cc in absurd (omega arith)

-- so of each list that is admitted
pub admitted : (l : List ℕ) (numbers : ℕ) (w : Words) → admission_fault l numbers ≡ None → Indexes l w → Admitted l numbers w
admitted l numbers w none index = admitted_by l numbers w (list_verdict l) refl none index

-- the table of an admitted list has enough numbers
enough_by : (verdict : Result Counts Fault) (numbers : ℕ) → fault_of verdict numbers ≡ None → entries ≤ numbers
enough_by (Ok counts) numbers none = (sizes-fit counts numbers none).1
enough_by (Err f) numbers none = let z : ◌≡◌ {A = ℕ} 0 1 = cc in absurd (omega arith)

-- so where nothing is refused
pub admitted_sizes : (l : List ℕ) (numbers : ℕ) → admission_fault l numbers ≡ None → entries ≤ numbers
admitted_sizes l numbers none = enough_by (list_verdict l) numbers none
