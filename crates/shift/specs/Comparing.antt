-- Comparing a table with the one that building writes.
use Rattle.std.specs.Prelude.{◌≡◌, ℕ, ◌<◌, List, Ok, Err, Result, slice_index}
use Rattle.landmark.specs.declared.refusal.Fault.{Fault}
use Rattle.landmark.specs.declared.refusal.Refusal.TheVariants.{EntryDiffers}
use Rattle.shift.specs.Table.{entries, all_bytes, number_of}

-- number c is the one that building writes
abbrev pub RightAt : List (List ℕ) → List ℕ → ℕ → Type 0
RightAt ws table c = slice_index table c ≡ number_of (all_bytes ws) c

-- c is the first entry whose number is not
pub record FirstWrong (ws : List (List ℕ)) (table : List ℕ) (c : ℕ) : Type 0 where
  pub within : c < entries
  pub before : (k : ℕ) → k < c → RightAt ws table k
  pub wrong : RightAt ws table c → ⊥

-- what a comparison answers
abbrev pub Compares : List (List ℕ) → List ℕ → Result Unit Fault → Type 0
Compares ws table (Ok done) = (c : ℕ) → c < entries → RightAt ws table c
Compares ws table (Err f) = (f.refusal ≡ EntryDiffers) × FirstWrong ws table f.detail
