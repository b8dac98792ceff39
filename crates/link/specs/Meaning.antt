-- What the link finder means: its words, and what the string of its node leaves half read.
use Rattle.std.specs.Prelude.{◌≡◌, ℕ, ◌<◌, true, List, [], length, slice_index_or}
use Rattle.std.proofs.Common.{ap, ◌∙◌}
use Rattle.finder.specs.Words.{defined, half_read, holds, word}
use Rattle.finder.proofs.HalfRead.{length-half_read, word-half_read, ends_with-nothing}
use Rattle.nodes.specs.Nodes.{strings, string}
use Rattle.words.specs.Index.{indexed}
use Rattle.link.specs.declared.link.LinkFinder.{LinkFinder}

abbrev pub words_in : LinkFinder → List (List ℕ)
words_in f = indexed f.words

-- the string of the node where the finder is
abbrev pub string_at : LinkFinder → List ℕ
string_at f = string (strings (words_in f)) f.at

abbrev pub halves_in : LinkFinder → List (List ℕ)
halves_in f = half_read (words_in f) (string_at f)

-- length 0 is always half read
defined-begun : (bytes w : List ℕ) → holds 0 (defined bytes w) ≡ true
defined-begun bytes w = rw (ends_with-nothing bytes)

pub halves_begun : (ws : List (List ℕ)) (bytes : List ℕ) (k : ℕ) → k < length ws → holds 0 (slice_index_or (half_read ws bytes) k []) ≡ true
halves_begun ws bytes k h = ap (holds 0) (word-half_read ws bytes k h) ∙ defined-begun bytes (word ws k)

pub halves_paired : (ws : List (List ℕ)) (bytes : List ℕ) → length (half_read ws bytes) ≡ length ws
halves_paired ws bytes = length-half_read ws bytes
