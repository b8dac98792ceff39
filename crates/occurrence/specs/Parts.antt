-- A second definition of an occurrence, by how the image is put together.
use Rattle.std.specs.Prelude.{◌≡◌, ℕ, ◌+◌, ◌≤◌, List, ◌++◌, length, Some, None, Option}
use Rattle.occurrence.specs.Occurrence.{Gap, Pattern, last, then}

abbrev pub NoMoreThan : Option ℕ → ℕ → Type 0
NoMoreThan None n = Unit {0}
NoMoreThan (Some greatest) n = n ≤ greatest

-- the gap allows so many bytes
abbrev pub Allows : Gap → ℕ → Type 0
Allows g n = (g.least ≤ n) × NoMoreThan g.greatest n

-- the bytes are the first word, then as many bytes as the first gap allows, then the next word, and so on up to the last word
abbrev pub Spells : Pattern → List ℕ → Type 0
Spells (last w) bytes = bytes ≡ w
Spells (then w g rest) bytes = (filler : List ℕ) × (more : List ℕ) × (bytes ≡ w ++ (filler ++ more)) × Allows g (length filler) × Spells rest more

-- the image is some bytes, then such bytes, then some bytes, and e counts all up to the last word's last byte
abbrev pub InParts : Pattern → List ℕ → ℕ → Type 0
InParts p image e = (front : List ℕ) × (bytes : List ℕ) × (back : List ℕ) × (image ≡ front ++ (bytes ++ back)) × (e ≡ length front + length bytes) × Spells p bytes
