-- Reading a list record by record: what comes, one after another.
use Rattle.std.specs.Prelude.{ℕ, List, [], ◌∷◌, Ok, Err, Result}
use Rattle.landmark.specs.Records.{Item, item, after}
use Rattle.landmark.specs.Lists.{Parts, ended, broken, part, parts_from, fault}
use Rattle.landmark.specs.declared.element.Read.{Read}
use Rattle.landmark.specs.declared.records.Records.{Records}
use Rattle.landmark.specs.declared.refusal.Fault.{Fault}

-- an item that was read, with the place of its record and the place after it
pub record Placed : Type 0 where
  pub place : ℕ
  pub item : Item
  pub next : ℕ

-- what reading one element answers, by its values
abbrev pub reading : Result Read Fault → Result Placed Fault
reading (Ok r) = Ok (record { place = r.place; item = item r.element; next = r.next })
reading (Err f) = Err f

-- each record in order, and last the fault where no record stands
abbrev pub readings : List ℕ → Parts → List (Result Placed Fault)
readings l ended = []
readings l (broken why p) = Err (fault why p) ∷ []
readings l (part p i rest) = Ok (record { place = p; item = i; next = after l p }) ∷ readings l rest

-- what reading a list from a place on brings
abbrev pub readings_from : List ℕ → ℕ → List (Result Placed Fault)
readings_from l p = readings l (parts_from l p)

-- what is left to come
abbrev pub readings_left : Records → List (Result Placed Fault)
readings_left s = readings_from s.list.now s.place
