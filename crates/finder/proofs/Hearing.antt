-- What a finder comes to over a row of bytes, and what that means by the bytes and the words alone.
use Rattle.std.proofs.Common.{ℕ, ◌<◌, ◌≤◌, List, [], ◌∷◌, ◌++◌, length, get_or, take, Decides, refl}
use Rattle.std.specs.List.{ContainsAt as Has}
use Rattle.finder.specs.Words.{word, half_read, holds, mask, Rested, Took}
use Rattle.finder.specs.Meaning.{ExactlyIf, EndsWith, Bit, Heard, FollowsBytes}
use Rattle.finder.specs.declared.finder.Finder.{Ghosts}
use Rattle.finder.proofs.HalfRead.{half_read-nothing, advance-half_read, length-half_read, word-half_read, defined-means, decides_whole}
use Rattle.finder.proofs.Masks.{mask-at_rest, mask-bit, mask-past}

-- the bit of a word is set exactly if the bytes end with the word
pub found_half_read : (ws : List (List ℕ)) (bytes : List ℕ) (k : ℕ) → k < length ws → ExactlyIf (Bit (mask ws (half_read ws bytes)) k) (EndsWith bytes (word ws k))
found_half_read ws bytes k within =
    let by_bit = mask-bit ws (half_read ws bytes) k (length-half_read ws bytes) within in
    let by_bytes : Decides (holds (length (word ws k)) (get_or (half_read ws bytes) k [])) (EndsWith bytes (word ws k)) = rw (word-half_read ws bytes k within) (decides_whole bytes (word ws k)) in
    (λ set. by_bytes.0 (by_bit.1 set), λ ends. by_bit.0 (by_bytes.1 ends))

-- what the bytes define is what they mean: each length, the bit of each word, and no other bit
pub half_read-follows : (ws : List (List ℕ)) (bytes : List ℕ)
    → ((k h : ℕ) → k < length ws → ExactlyIf (Has (get_or (half_read ws bytes) k []) h) ((h ≤ length (word ws k)) × EndsWith bytes (take h (word ws k))))
    × ((k : ℕ) → k < length ws → ExactlyIf (Bit (mask ws (half_read ws bytes)) k) (EndsWith bytes (word ws k)))
    × ((k : ℕ) → length ws ≤ k → Bit (mask ws (half_read ws bytes)) k → ⊥)
half_read-follows ws bytes = (λ k h within. rw (word-half_read ws bytes k within) (defined-means bytes (word ws k) h), found_half_read ws bytes, mask-past ws (half_read ws bytes))

-- finders of any kind F
module _ {F : Type 0} (finder : Ghosts F) where
  -- a finder at rest has heard no bytes, and no word ends
  pub heard_nothing : (s t : F) → ((k : ℕ) → k < length (finder.words t) → 0 < length (word (finder.words t) k)) → Rested finder.words finder.halves s t → Heard finder t [] t 0
  heard_nothing s t some rested =
      let none = half_read-nothing (finder.words t) in
      let no_word = mask-at_rest (finder.words t) some in
      let kept = rested.kept in
      let half = rested.half in
      record { kept = refl; half = cc; tells = cc }

  -- taking one more byte, a finder has heard one more byte
  pub heard_more : (s t u : F) (bytes : List ℕ) (b r q : ℕ) → Heard finder s bytes t r → Took finder.words finder.halves t b u q → Heard finder s (bytes ++ (b ∷ [])) u q
  heard_more s t u bytes b r q heard took =
      let step = advance-half_read (finder.words s) b bytes in
      record { kept = cc; half = cc; tells = cc }

  -- to rest first changes nothing of what is heard
  pub heard_rested : (s t u : F) (bytes : List ℕ) (r : ℕ) → Rested finder.words finder.halves s t → Heard finder t bytes u r → Heard finder s bytes u r
  heard_rested s t u bytes r rested heard = record { kept = cc; half = cc; tells = cc }

  -- what a finder has heard is what the bytes mean
  pub heard_follows : (s t : F) (bytes : List ℕ) (r : ℕ) → Heard finder s bytes t r → FollowsBytes finder s bytes t r
  heard_follows s t bytes r heard =
      let (half, found, other) = half_read-follows (finder.words s) bytes in
      record { half = rw heard.half half; found = rw heard.tells found; other = rw heard.tells other }
