-- What a finder comes to over a row of bytes, and what half-read lengths and masks mean, by the bytes and the words alone.
use Rattle.std.specs.Prelude.{◌≡◌, ℕ, ◌/◌, ◌%◌, ◌^◌, ◌<◌, ◌≤◌, List, [], ◌++◌, length, take, slice_index_or}
use Rattle.std.specs.List.{ContainsAt as Has}
use Rattle.finder.specs.Words.{word, half_read, mask}
use Rattle.finder.specs.declared.finder.Finder.{Ghosts}

-- each follows from the other
abbrev pub ExactlyIf : Type 0 → Type 0 → Type 0
ExactlyIf P Q = (P → Q) × (Q → P)

-- the bytes are some bytes, then w
abbrev pub EndsWith : List ℕ → List ℕ → Type 0
EndsWith bytes w = (front : List ℕ) × (bytes ≡ front ++ w)

-- bit k of r is set
abbrev pub Bit : ℕ → ℕ → Type 0
Bit r k = (r / 2 ^ k) % 2 ≡ 1

-- what resting and then taking the bytes in order does to a finder, and what it answers
pub record Heard {F : Type 0} (finder : Ghosts F) (s : F) (bytes : List ℕ) (t : F) (r : ℕ) : Type 0 where
  pub kept : finder.words t ≡ finder.words s
  pub half : finder.halves t ≡ half_read (finder.words s) bytes
  pub tells : r ≡ mask (finder.words s) (half_read (finder.words s) bytes)

-- the half lists afterwards and the mask are what the bytes make of the words
pub record FollowsBytes {F : Type 0} (finder : Ghosts F) (s : F) (bytes : List ℕ) (t : F) (r : ℕ) : Type 0 where
  -- a half list has a length exactly if the bytes end with so many first bytes of its word
  pub half : (k h : ℕ) → k < length (finder.words s) → ExactlyIf (Has (slice_index_or (finder.halves t) k []) h) ((h ≤ length (word (finder.words s) k)) × EndsWith bytes (take h (word (finder.words s) k)))
  -- the bit of a word is set exactly if the bytes end with the word
  pub found : (k : ℕ) → k < length (finder.words s) → ExactlyIf (Bit r k) (EndsWith bytes (word (finder.words s) k))
  -- no other bit is set
  pub other : (k : ℕ) → length (finder.words s) ≤ k → Bit r k → ⊥
