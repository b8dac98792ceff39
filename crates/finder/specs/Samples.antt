-- Half-read lengths and masks of three words, computed.
use Rattle.std.specs.Prelude.{◌≡◌, ℕ, List, [], ◌∷◌, map, codes, refl}
use Rattle.finder.specs.Words.{half_read, advance_all, mask}

abbrev three : List (List ℕ)
three = codes "ab" ∷ codes "bab" ∷ codes "b" ∷ []

abbrev answer : List ℕ → ℕ
answer bytes = mask three (half_read three bytes)

answers : map answer (codes "a" ∷ codes "ab" ∷ codes "aba" ∷ codes "abab" ∷ []) ≡ 0 ∷ 5 ∷ 0 ∷ 7 ∷ []
answers = refl

lengths : half_read three (codes "aba") ≡ (0 ∷ 1 ∷ []) ∷ (0 ∷ 2 ∷ []) ∷ (0 ∷ []) ∷ []
lengths = refl

steps : advance_all three 98 (half_read three (codes "aba")) ≡ half_read three (codes "abab")
steps = refl
