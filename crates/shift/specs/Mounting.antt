-- What a shift finder means, and putting one on a list and its table.
use Rattle.std.specs.Prelude.{◌≡◌, ℕ, ◌⊎◌, List, length, take, Some, None, Ok, Err, Result}
use Rattle.finder.specs.Words.{at_rest}
use Rattle.landmark.specs.Grammar.{words_of}
use Rattle.landmark.specs.declared.refusal.Fault.{Fault}
use Rattle.landmark.specs.declared.refusal.Refusal.TheVariants.{EntryDiffers}
use Rattle.words.specs.Index.{indexed}
use Rattle.shift.specs.Table.{entries, table_of}
use Rattle.shift.specs.Building.{admission_fault, Builds}
use Rattle.shift.specs.Comparing.{FirstWrong}
use Rattle.shift.specs.Register.{halves_of}
use Rattle.shift.specs.declared.shift.ShiftFinder.{ShiftFinder}

-- the words of a finder
abbrev pub words_in : ShiftFinder → List (List ℕ)
words_in s = indexed s.words.index

-- its half-read lengths
abbrev pub halves_in : ShiftFinder → List (List ℕ)
halves_in s = halves_of (indexed s.words.index) s.register

-- why mounting is refused: as building is, or else at the first number that building would write otherwise
abbrev pub Refuses : List ℕ → List ℕ → Fault → Type 0
Refuses l table f =
    (admission_fault l (length table) ≡ Some f) ⊎ ((admission_fault l (length table) ≡ None) × (f.refusal ≡ EntryDiffers) × FirstWrong (words_of l) table f.detail)

-- mounting: on the table that the list builds the finder has the list's words and is at rest; refused, it is as it was
abbrev pub Mounts : List ℕ → List ℕ → ShiftFinder → ShiftFinder → Result Unit Fault → Type 0
Mounts l table before after (Ok done) =
    (admission_fault l (length table) ≡ None) × (take entries table ≡ table_of (words_of l)) × (words_in after ≡ words_of l) × (halves_in after ≡ at_rest (words_of l))
Mounts l table before after (Err f) = Refuses l table f × (after ≡ before)

-- a new finder on a list and its table is as one that is mounted on them
abbrev pub MountsNew : List ℕ → List ℕ → Result ShiftFinder Fault → Type 0
MountsNew l table (Ok s) = Mounts l table s s (Ok tt)
MountsNew l table (Err f) = Refuses l table f

-- a table that was built for the list is accepted
abbrev pub AcceptsBuilt : List ℕ → List ℕ → Result Unit Fault → Type 0
AcceptsBuilt l table r = (before : List ℕ) (written : ℕ) → Builds l before table (Ok written) → r ≡ Ok tt
