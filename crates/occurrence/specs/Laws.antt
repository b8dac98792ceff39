-- What guards the definition of a landmark's end.
use Rattle.std.specs.Prelude.{◌≡◌, ℕ, List, Option}
use Rattle.occurrence.specs.Occurrence.{Pattern, Occurs, IsEnd}
use Rattle.occurrence.specs.Parts.{InParts}
use Rattle.occurrence.specs.Search.{end_of}

-- a landmark has one end, or none, in given bytes
abbrev pub OneEnd : Type 0
OneEnd = (p : Pattern) (image : List ℕ) (a b : Option ℕ) → IsEnd p image a → IsEnd p image b → a ≡ b

-- trying every pick computes it
abbrev pub SearchFindsTheEnd : Type 0
SearchFindsTheEnd = (p : Pattern) (image : List ℕ) → IsEnd p image (end_of p image)

-- a landmark occurs with end e exactly if the image is put together so
abbrev pub OccursInParts : Type 0
OccursInParts = (p : Pattern) (image : List ℕ) (e : ℕ) → (Occurs p image e → InParts p image e) × (InParts p image e → Occurs p image e)
