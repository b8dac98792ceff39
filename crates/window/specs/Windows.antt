-- Windows of words: which bit stands for which end, and what a mark and a question mean.
use Rattle.std.specs.Prelude.{◌≡◌, ℕ, ◌+◌, ◌*◌, ◌/◌, ◌%◌, ◌<◌, ◌≤◌, Bool, true, List, [], replicate, ◌≢◌, slice_index, slice_index_or}
use Rattle.finder.specs.Meaning.{ExactlyIf, Bit}

-- how many bits a number has
abbrev pub number_bits : ℕ
number_bits = 64

-- how many numbers a window has
abbrev pub numbers : ℕ
numbers = 5

-- how many ends a window tells apart: end e has bit e modulo span
abbrev pub span : ℕ
span = number_bits * numbers

-- how many words have a window
abbrev pub words : ℕ
words = 64

-- windows in which nothing is marked
abbrev pub cleared : List (List ℕ)
cleared = replicate words (replicate numbers 0)

-- bit b of one window is set
abbrev pub BitOf : List ℕ → ℕ → Type 0
BitOf window b = Bit (slice_index window (b / number_bits)) (b % number_bits)

-- no bit of one window is set
abbrev pub NoBit : List ℕ → Type 0
NoBit window = (b : ℕ) → b < span → BitOf window b → ⊥

-- bit b of the window of word k is set
abbrev pub Marked : List (List ℕ) → ℕ → ℕ → Type 0
Marked xs k b = BitOf (slice_index_or xs k []) b

-- no bit of the window of word k is set
abbrev pub Empty : List (List ℕ) → ℕ → Type 0
Empty xs k = NoBit (slice_index_or xs k [])

-- some end from low to high has its bit set in the window of word k
abbrev pub SomeMarked : List (List ℕ) → ℕ → ℕ → ℕ → Type 0
SomeMarked xs k low high = (e : ℕ) × (low ≤ e) × (e ≤ high) × Marked xs k (e % span)

-- what telling word k whether it was reached at an end does to the windows
pub record Marks (before : List (List ℕ)) (k end : ℕ) (reached : Bool) (after : List (List ℕ)) : Type 0 where
  -- the bit of the end says what was told
  pub told : k < words → ExactlyIf (Marked after k (end % span)) (reached ≡ true)
  -- every other bit of every window stays
  pub other : (j b : ℕ) → b < span → ((j ≡ k) × (b ≡ end % span) → ⊥) → ExactlyIf (Marked after j b) (Marked before j b)
  -- every other word's window stays
  pub apart : (j : ℕ) → j ≢ k → slice_index_or after j [] ≡ slice_index_or before j []
  -- where there is no such word, nothing changes
  pub past : words ≤ k → after ≡ before

-- the ends that a window still tells apart after so many bytes
abbrev pub Recent : ℕ → ℕ → Type 0
Recent taken e = (1 ≤ e) × (e ≤ taken) × (taken < e + span)

-- the window of word k is that of a word that was reached so, after so many bytes
abbrev pub HoldsEnds : (ℕ → Type 0) → ℕ → List (List ℕ) → ℕ → Type 0
HoldsEnds reached taken xs k = (b : ℕ) → b < span → ExactlyIf (Marked xs k b) ((e : ℕ) × Recent taken e × (e % span ≡ b) × reached e)
