-- The table, the first and last bytes and the half-read lengths of three words, computed.
use Rattle.std.specs.Prelude.{◌≡◌, ℕ, List, [], ◌∷◌, codes, slice_index_or, refl}
use Rattle.shift.specs.Register.{firsts_of, lasts_of, halves_of}
use Rattle.shift.specs.Table.{all_bytes, number_of, table_of}

-- ab, bab and b: six run bytes
abbrev three : List (List ℕ)
three = codes "ab" ∷ codes "bab" ∷ codes "b" ∷ []

-- a is run byte 0 and 3
number_of-a : number_of (all_bytes three) 97 ≡ 9
number_of-a = refl

-- b is each other one
entry_of_b : slice_index_or (table_of three) 98 0 ≡ 54
entry_of_b = refl

-- the words begin at run bytes 0, 2 and 5
firsts : firsts_of three ≡ 37
firsts = refl

-- and end at 1, 4 and 5
lasts : lasts_of three ≡ 50
lasts = refl

-- bits 0 and 3: one byte of ab and two of bab
lengths : halves_of three 9 ≡ (0 ∷ 1 ∷ []) ∷ (0 ∷ 2 ∷ []) ∷ (0 ∷ []) ∷ []
lengths = refl
