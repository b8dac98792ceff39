-- The laws of the automaton in its own words: what failure links, outputs and positions are, by the words and the bytes alone.
use Rattle.std.specs.Prelude.{◌≡◌, ℕ, ◌<◌, List, [], ◌++◌, length, fold}
use Rattle.std.specs.List.{ContainsAt as Has}
use Rattle.finder.specs.Words.{word, half_read}
use Rattle.finder.specs.Meaning.{ExactlyIf, EndsWith, Bit}
use Rattle.nodes.specs.Nodes.{strings, string, back_link, suffix_mask, step}
use Rattle.nodes.specs.Tables.{Longest, LongestProper}

-- s is a prefix of some word
abbrev pub PrefixOfOne : List (List ℕ) → List ℕ → Type 0
PrefixOfOne ws s = (w : List ℕ) × (rest : List ℕ) × Has ws w × (w ≡ s ++ rest)

-- the nodes of the words, with their failure links and outputs
pub record LinksAndOutputs (ws : List (List ℕ)) : Type 0 where
  -- the root's string is empty
  pub root : string (strings ws) 0 ≡ []
  -- each other node's string is a prefix of some word
  pub prefix : (n : ℕ) → 0 < n → n < length (strings ws) → (0 < length (string (strings ws) n)) × PrefixOfOne ws (string (strings ws) n)
  -- and each prefix of a word is the string of one node
  pub node : (s : List ℕ) → PrefixOfOne ws s → (n : ℕ) × (n < length (strings ws)) × (string (strings ws) n ≡ s)
  pub one : (m n : ℕ) → m < length (strings ws) → n < length (strings ws) → string (strings ws) m ≡ string (strings ws) n → m ≡ n
  -- the failure link of a node leads to the longest proper suffix of its string that is a prefix of some word
  pub failure : (n : ℕ) → 0 < n → n < length (strings ws) → LongestProper (PrefixOfOne ws) (string (strings ws) n) (string (strings ws) (back_link (strings ws) (string (strings ws) n)))
  -- the output of a node has the words that are suffixes of its string
  pub output : (n k : ℕ) → n < length (strings ws) → k < length ws → ExactlyIf (Bit (suffix_mask ws (string (strings ws) n)) k) (EndsWith (string (strings ws) n) (word ws k))

-- for all words
abbrev pub FailureLaw : Type 0
FailureLaw = (ws : List (List ℕ)) → LinksAndOutputs ws

-- the string that the bytes lead to from the root, one step a byte
abbrev pub position : List (List ℕ) → List ℕ → List ℕ
position ws bytes = fold (step (strings ws)) [] bytes

-- after any bytes, for all words, at least one, the position is the longest suffix of the bytes that is a prefix of some word, and it means to a finder what the bytes mean
abbrev pub PositionLaw : Type 0
PositionLaw = (ws : List (List ℕ)) (bytes : List ℕ) → 0 < length ws → Longest (PrefixOfOne ws) bytes (position ws bytes) × (half_read ws (position ws bytes) ≡ half_read ws bytes)
