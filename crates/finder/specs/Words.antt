-- What a finder means: its words, and for each word its half-read lengths, a rising list that begins with 0.
use Rattle.std.specs.Prelude.{◌≡◌, ℕ, zero, suc, ◌+◌, ◌*◌, ◌<◌, ◌≤◌, Bool, true, false, cond, ◌&&◌, ◌||◌, List, [], ◌∷◌, map, length, take, ◌==◌, nat_lt, slice_index, slice_index_or}

-- how many words a finder has at most, one to each bit of a mask
abbrev pub most_words : ℕ
most_words = 64

-- how many bytes a word has at most
abbrev pub longest_word : ℕ
longest_word = 64

-- word k, counted from 0
abbrev pub word : List (List ℕ) → ℕ → List ℕ
word ws k = slice_index_or ws k []

-- a word has at least one byte, and no more than a word may have
abbrev pub WellSized : List ℕ → Type 0
WellSized w = (0 < length w) × (length w ≤ longest_word)

-- the same bytes
abbrev pub same : List ℕ → List ℕ → Bool
same [] [] = true
same [] (y ∷ ys) = false
same (x ∷ xs) [] = false
same (x ∷ xs) (y ∷ ys) = x == y && same xs ys

-- the bytes end with w
abbrev pub ends_with : List ℕ → List ℕ → Bool
ends_with [] w = same [] w
ends_with (b ∷ bs) w = same (b ∷ bs) w || ends_with bs w

-- those of the n numbers from h on that pass
abbrev pub passing : ℕ → ℕ → (ℕ → Bool) → List ℕ
passing zero h test = []
passing (suc n) h test = cond (test h) (h ∷ passing n (suc h) test) (passing n (suc h) test)

-- the half-read lengths of w that the bytes define: the bytes end with the first h bytes of w
abbrev pub defined : List ℕ → List ℕ → List ℕ
defined bytes w = passing (suc (length w)) 0 (λ h. ends_with bytes (take h w))

-- those of every word
abbrev pub half_read : List (List ℕ) → List ℕ → List (List ℕ)
half_read ws bytes = map (defined bytes) ws

-- each length, one further, at which the word goes on with the byte b
abbrev pub carried : ℕ → List ℕ → List ℕ → List ℕ
carried b w [] = []
carried b w (h ∷ hs) = cond (nat_lt h (length w) && slice_index w h == b) (suc h ∷ carried b w hs) (carried b w hs)

-- the half-read lengths after one more byte: 0, and what the byte carries on
abbrev pub advance : ℕ → List ℕ → List ℕ → List ℕ
advance b w hs = 0 ∷ carried b w hs

-- those of every word
abbrev pub advance_all : List (List ℕ) → ℕ → List (List ℕ) → List (List ℕ)
advance_all [] b hss = []
advance_all (w ∷ ws) b [] = []
advance_all (w ∷ ws) b (hs ∷ hss) = advance b w hs ∷ advance_all ws b hss

-- before any byte, of every word only length 0 is half-read
abbrev pub at_rest : List (List ℕ) → List (List ℕ)
at_rest ws = map (λ w. 0 ∷ []) ws

-- n is one of the lengths
abbrev pub holds : ℕ → List ℕ → Bool
holds n [] = false
holds n (h ∷ hs) = h == n || holds n hs

-- the words that are read whole, word k in bit k
abbrev pub mask : List (List ℕ) → List (List ℕ) → ℕ
mask [] hss = 0
mask (w ∷ ws) [] = 0
mask (w ∷ ws) (hs ∷ hss) = cond (holds (length w) hs) 1 0 + 2 * mask ws hss

-- what rest does to a finder
pub record Rested {F : Type 0} (words halves : F → List (List ℕ)) (s t : F) : Type 0 where
  pub kept : words t ≡ words s
  pub half : halves t ≡ at_rest (words s)

-- what taking the byte b does to a finder, and what it answers
pub record Took {F : Type 0} (words halves : F → List (List ℕ)) (s : F) (b : ℕ) (t : F) (r : ℕ) : Type 0 where
  pub kept : words t ≡ words s
  pub half : halves t ≡ advance_all (words s) b (halves s)
  pub tells : r ≡ mask (words s) (halves t)
