-- The table of a row of words: for each byte value a number whose bits say where that value stands.
use Rattle.std.specs.Prelude.{◌≡◌, ℕ, ◌+◌, ◌*◌, ◌<◌, cond, List, [], ◌∷◌, map, length, ◌==◌, slice_index}
use Rattle.std.specs.List.{concat, range_with_len}
use Rattle.finder.specs.Meaning.{ExactlyIf, Bit}

-- how many numbers a table has, one to each byte value
abbrev pub entries : ℕ
entries = 256

-- how many run bytes a table serves at most, one to each bit of a number
abbrev pub most_run_bytes : ℕ
most_run_bytes = 64

-- the bytes of all words, one word behind the other
abbrev pub all_bytes : List (List ℕ) → List ℕ
all_bytes ws = concat ws

-- the number of the byte value c: bit p is set exactly if byte p is c
abbrev pub number_of : List ℕ → ℕ → ℕ
number_of [] c = 0
number_of (b ∷ bs) c = cond (b == c) 1 0 + 2 * number_of bs c

-- the table of the words
abbrev pub table_of : List (List ℕ) → List ℕ
table_of ws = map (number_of (all_bytes ws)) (range_with_len 0 entries)

-- a table says by its bits where each byte value stands among the bytes of the words
abbrev pub TellsPlaces : List (List ℕ) → List ℕ → Type 0
TellsPlaces ws table = (c p : ℕ) → c < entries → ExactlyIf (Bit (slice_index table c) p) ((p < length (all_bytes ws)) × (slice_index (all_bytes ws) p ≡ c))
