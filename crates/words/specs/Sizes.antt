-- How many words an index has, and how long they are.
use Rattle.std.specs.Prelude.{◌≡◌, ℕ, ◌<◌, ◌≤◌, List, [], length, slice_index_or}
use Rattle.std.specs.Borrow.{Bor}
use Rattle.std.proofs.Common.{subst, arith}
use Rattle.std.proofs.lemmas.List.{length-map, get_or-map}
use Rattle.landmark.specs.Lists.{most_words}
use Rattle.words.specs.RunSized.{RunSized}
use Rattle.words.specs.Index.{indexed, slices}
use Rattle.words.specs.declared.words.Words.{Words}

-- an index has as many words as slices
pub length-indexed : (w : Words) → length (indexed w) ≡ length (slices w)
length-indexed w = length-map (slices w) (λ s. s.now)

-- an index has few words
pub indexed-few : (w : Words) → length (indexed w) ≤ most_words
indexed-few w = omega (arith, length-indexed w, w.few)

-- each word has at least one byte, and no more than a run may have
pub indexed-sized : (w : Words) (k : ℕ) → k < length (indexed w) → RunSized (slice_index_or (indexed w) k [])
indexed-sized w k within = w.sized k (omega (arith, length-indexed w))

-- so has each slice, which is the word at its place
pub slices-sized : (w : Words) (k : ℕ) (other : Bor (List ℕ)) → k < length (slices w) → RunSized (slice_index_or (slices w) k other).now
slices-sized w k other within = subst RunSized (get_or-map (λ s. s.now) (slices w) k other [] within) (indexed-sized w k (simp length-map within))
