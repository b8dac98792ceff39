-- Whether a list and so many entries of a table go together.
use Rattle.std.specs.Prelude.{◌≡◌, ℕ, List, Some, None, Ok, Err, Result}
use Rattle.landmark.specs.declared.refusal.Fault.{Fault}
use Rattle.link.specs.Mounting.{size_fault}

-- what an admission answers
abbrev pub Admits : List ℕ → ℕ → Result Unit Fault → Type 0
Admits l entries (Ok done) = size_fault l entries ≡ None
Admits l entries (Err f) = size_fault l entries ≡ Some f
