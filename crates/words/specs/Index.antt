-- What an index means: its words, and the index of a list.
use Rattle.std.specs.Prelude.{◌≡◌, ℕ, List, map, take, Ok}
use Rattle.std.specs.Borrow.{Bor}
use Rattle.landmark.specs.Grammar.{sizes, words_of}
use Rattle.landmark.specs.Lists.{list_verdict, most_words}
use Rattle.landmark.specs.declared.list.Counts.{Counts}
use Rattle.words.specs.declared.words.Words.{Words}

-- the slices of an index's words, in order
abbrev pub slices : Words → List (Bor (List ℕ))
slices w = w.words.items

-- the words of an index, in order
abbrev pub indexed : Words → List (List ℕ)
indexed w = map (λ s. s.now) (slices w)

-- an index of a list: the first words of any list, and of an accepted one all, with as many bytes as it counts
pub record Indexes (l : List ℕ) (w : Words) : Type 0 where
  pub first : indexed w ≡ take most_words (words_of l)
  pub all : (counts : Counts) → list_verdict l ≡ Ok counts → (indexed w ≡ words_of l) × (sizes (indexed w) ≡ counts.run_bytes)
