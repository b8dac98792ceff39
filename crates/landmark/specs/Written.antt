-- What the steps of writing answer.
use Rattle.std.specs.Prelude.{◌≡◌, ℕ, length, Some, None, Ok, Err, Result}
use Rattle.landmark.specs.Records.{Item, body_of, unfit}
use Rattle.landmark.specs.declared.refusal.Refusal.{Refusal}

-- the size of an item's body, or why it is unfit for a record
abbrev pub Sized : Item → Result ℕ Refusal → Type 0
Sized i (Ok size) = (unfit i ≡ None) × (size ≡ length (body_of i))
Sized i (Err why) = unfit i ≡ Some why
