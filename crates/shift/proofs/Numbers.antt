-- The bits of the numbers of a table.
use Rattle.std.proofs.Common.{◌≡◌, ℕ, zero, suc, ◌<◌, ◌≤◌, ◌&&◌, eqb, ltb, List, [], ◌∷◌, ◌++◌, length, get_or, take, sym, ◌∙◌, subst, arith}
use Rattle.std.proofs.lemmas.List.FromFn.{fill_by_all, get_or-map-range_with_len, length-map-range_with_len}
use Rattle.std.proofs.lemmas.List.{get_or-take, get_or_append_left, length-take-le}
use Rattle.std.proofs.lemmas.Bool.Decides.{Decides-eqb, Decides-ltb, Decides-and, Decides-at, nat_tests}
use Rattle.finder.specs.Meaning.{ExactlyIf, Bit}
use Rattle.shift.specs.Table.{entries, all_bytes, number_of, table_of, TellsPlaces}
use Rattle.shift.specs.Comparing.{RightAt}
use Rattle.shift.specs.Register.{bit}
use Rattle.shift.proofs.Bits.{bit-zero, bit-first, bit-next}

-- bit p of the number of c says whether byte p is c
pub number_bit : (bytes : List ℕ) (c p : ℕ) → bit (number_of bytes c) p ≡ (ltb p (length bytes) && eqb (get_or bytes p 0) c)
number_bit [] c p = bit-zero p ∙ grind (arith, nat_tests)
number_bit (b ∷ bs) c zero = bit-first (eqb b c) (number_of bs c) ∙ grind (arith, nat_tests)
number_bit (b ∷ bs) c (suc p) = bit-next (eqb b c) (number_of bs c) p ∙ number_bit bs c p ∙ grind (arith, nat_tests)

-- the same as a law
pub number-tells : (bytes : List ℕ) (c p : ℕ) → ExactlyIf (Bit (number_of bytes c) p) ((p < length bytes) × (get_or bytes p 0 ≡ c))
number-tells bytes c p =
    let by_bit = Decides-eqb _ 1 in
    let by_byte = Decides-at _ _ (number_bit bytes c p) (Decides-and _ _ (Decides-ltb p (length bytes)) (Decides-eqb (get_or bytes p 0) c)) in
    (λ set. by_byte.0 (by_bit.1 set), λ is. by_bit.0 (by_byte.1 is))

-- entry c of a table is the number of c
pub table_at : (ws : List (List ℕ)) (rest : List ℕ) (c : ℕ) → c < entries → get_or (table_of ws ++ rest) c 0 ≡ number_of (all_bytes ws) c
table_at ws rest c within =
    let size = length-map-range_with_len (number_of (all_bytes ws)) 0 entries in
    get_or_append_left (table_of ws) rest 0 c (omega arith) ∙ get_or-map-range_with_len (number_of (all_bytes ws)) 0 entries c c 0 within (omega arith)

-- so a table says where each byte value stands
pub table_tells : (ws : List (List ℕ)) (rest : List ℕ) → TellsPlaces ws (table_of ws ++ rest)
table_tells ws rest c p within =
    subst (λ n. ExactlyIf (Bit n p) ((p < length (all_bytes ws)) × (get_or (all_bytes ws) p 0 ≡ c))) (sym (table_at ws rest c within)) (number-tells (all_bytes ws) c p)

-- right numbers are the table of the words
pub right_numbers : (ws : List (List ℕ)) (numbers : List ℕ) → length numbers ≡ entries → ((c : ℕ) → c < entries → RightAt ws numbers c) → numbers ≡ table_of ws
right_numbers ws numbers size right = fill_by_all (number_of (all_bytes ws)) numbers entries 0 size right

-- so the first of a longer table are
pub right_table : (ws : List (List ℕ)) (table : List ℕ) → entries ≤ length table → ((c : ℕ) → c < entries → RightAt ws table c) → take entries table ≡ table_of ws
right_table ws table enough right = right_numbers ws (take entries table) (length-take-le entries table enough) (λ c within. get_or-take entries table c 0 within ∙ right c within)
