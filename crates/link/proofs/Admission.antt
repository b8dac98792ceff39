-- What it says that a list and a table go together.
use Rattle.std.proofs.Common.{◌≡◌, ℕ, ◌+◌, ◌<◌, ◌≤◌, List, length, sum_by, None, Ok, Err, Result, sym, refl, ap, ◌∙◌, arith}
use Rattle.std.proofs.lemmas.Bool.Decides.{nat_tests}
use Rattle.landmark.specs.Grammar.{sizes, words_of}
use Rattle.landmark.specs.Lists.{list_verdict}
use Rattle.landmark.specs.declared.list.Counts.{Counts}
use Rattle.landmark.specs.declared.refusal.Fault.{Fault}
use Rattle.words.specs.Index.{Indexes, indexed}
use Rattle.words.specs.declared.words.Words.{Words}
use Rattle.nodes.specs.Nodes.{strings}
use Rattle.landmark.specs.Records.{or_else}
use Rattle.link.specs.Building.{build_refusal, list_fault, no_room}
use Rattle.link.specs.Mounting.{fault_of, size_fault}
use Rattle.link.proofs.Making.{nodes_most, sizes-sum}

-- there is room, where the sizes have no fault
pub has_room : (counts : Counts) (entries : ℕ) → fault_of (Ok counts) entries ≡ None → counts.run_bytes < entries
has_room counts entries none = grind (arith, nat_tests)

-- the words of an admitted list are indexed, and the table has more entries than they have bytes, so one for each of their nodes
pub record Admitted (l : List ℕ) (entries : ℕ) (w : Words) : Type 0 where
  pub words : indexed w ≡ words_of l
  pub bytes : sizes (indexed w) < entries
  pub nodes : length (strings (indexed w)) ≤ entries

-- by the verdict on the list
admitted_by : (l : List ℕ) (entries : ℕ) (w : Words) (verdict : Result Counts Fault) → list_verdict l ≡ verdict → fault_of verdict entries ≡ None → Indexes l w → Admitted l entries w
admitted_by l entries w (Ok counts) is none index =
    let room = has_room counts entries none in
    let (words, total) = index.all counts is in
    record { words = words; bytes = omega arith; nodes = omega (arith, nodes_most (indexed w)) }
admitted_by l entries w (Err f) is none index = let z : ◌≡◌ {A = ℕ} 0 1 = cc in absurd (omega arith)

-- so of each list that is admitted
pub admitted : (l : List ℕ) (entries : ℕ) (w : Words) → size_fault l entries ≡ None → Indexes l w → Admitted l entries w
admitted l entries w none index = admitted_by l entries w (list_verdict l) refl none index

-- building and mounting are refused alike for the list and the entries
same-refusal_by : (l : List ℕ) (size : ℕ) (w : Words) (verdict : Result Counts Fault) → list_verdict l ≡ verdict → Indexes l w → build_refusal l size ≡ size_fault l size
same-refusal_by l size w (Ok counts) is index =
    let (words, total) = index.all counts is in
    ap (λ v. or_else (list_fault v) (no_room size (sizes (words_of l) + 1))) is ∙ ap (λ n. no_room size (n + 1)) (ap sizes (sym words) ∙ total) ∙ sym (ap (λ v. fault_of v size) is)
same-refusal_by l size w (Err f) is index = ap (λ v. or_else (list_fault v) (no_room size (sizes (words_of l) + 1))) is ∙ sym (ap (λ v. fault_of v size) is)

pub same-refusal : (l : List ℕ) (size : ℕ) (w : Words) → Indexes l w → build_refusal l size ≡ size_fault l size
same-refusal l size w index = same-refusal_by l size w (list_verdict l) refl index

-- so a table has more entries than the words of an admitted list have bytes
pub room : (l : List ℕ) (entries : ℕ) (w : Words) → size_fault l entries ≡ None → Indexes l w → sum_by length (indexed w) < entries
room l entries w none index =
    let good = admitted l entries w none index in
    omega (arith, good.bytes, sizes-sum (indexed w))
