-- The nodes that words define, by their strings, and the numbers of a node by what they mean.
use Rattle.std.specs.Prelude.{ℕ, zero, suc, ◌+◌, ◌-◌, ◌*◌, Bool, false, cond, ◌||◌, List, [], ◌∷◌, ◌++◌, map, length, take, drop, slice_index, slice_index_or}
use Rattle.std.specs.List.{flat_map}
use Rattle.finder.specs.Words.{same, ends_with}

-- the string is one of these
abbrev pub among : List (List ℕ) → List ℕ → Bool
among [] s = false
among (t ∷ ts) s = same t s || among ts s

-- the prefixes of a word but the empty one, the shortest first
abbrev pub prefixes : List ℕ → List (List ℕ)
prefixes [] = []
prefixes (b ∷ bs) = (b ∷ []) ∷ map (λ s. b ∷ s) (prefixes bs)

-- each string that is not there yet, behind those that are
abbrev pub add : List (List ℕ) → List ℕ → List (List ℕ)
add ss s = cond (among ss s) ss (ss ++ (s ∷ []))

abbrev pub add_all : List (List ℕ) → List (List ℕ) → List (List ℕ)
add_all ss [] = ss
add_all ss (t ∷ ts) = add_all (add ss t) ts

-- the strings of the nodes: the root's, and then the prefixes of the words, entered one word after the other. A node's number is the place of its string
abbrev pub strings : List (List ℕ) → List (List ℕ)
strings ws = add_all ([] ∷ []) (flat_map prefixes ws)

abbrev pub string : List (List ℕ) → ℕ → List ℕ
string ss n = slice_index_or ss n []

-- the place of a string
abbrev pub number : List (List ℕ) → List ℕ → ℕ
number [] s = 0
number (t ∷ ts) s = cond (same t s) 0 (suc (number ts s))

-- the length of the longest prefix of w of at most d bytes that is one of these, or 0
abbrev pub shared_upto : List (List ℕ) → List ℕ → ℕ → ℕ
shared_upto ss w zero = 0
shared_upto ss w (suc d) = cond (among ss (take (suc d) w)) (suc d) (shared_upto ss w d)

-- the length of the longest prefix of w that is one of these, or 0
abbrev pub shared : List (List ℕ) → List ℕ → ℕ
shared ss w = shared_upto ss w (length w)

-- a string without its last byte, and that byte, 0 where there is none
abbrev pub parent : List ℕ → List ℕ
parent s = take (length s - 1) s

abbrev pub last_byte : List ℕ → ℕ
last_byte s = slice_index s (length s - 1)

abbrev pub is_child : List ℕ → List ℕ → Bool
is_child s [] = false
is_child s (b ∷ t) = same (parent (b ∷ t)) s

-- the lowest number from n on whose string passes, or 0
abbrev pub lowest : ℕ → List (List ℕ) → (List ℕ → Bool) → ℕ
lowest n [] f = 0
lowest n (t ∷ ts) f = cond (f t) n (lowest (suc n) ts f)

-- the lowest-numbered child of s, or 0
abbrev pub first_child : List (List ℕ) → List ℕ → ℕ
first_child ss s = lowest 0 ss (is_child s)

-- the next higher node with the same parent as node n, whose string is s, or 0
abbrev pub next_sibling : List (List ℕ) → ℕ → List ℕ → ℕ
next_sibling ss n [] = 0
next_sibling ss n (b ∷ s) = lowest (suc n) (drop (suc n) ss) (is_child (parent (b ∷ s)))

-- the longest suffix of s that is a node's string
abbrev pub longest : List (List ℕ) → List ℕ → List ℕ
longest ss [] = []
longest ss (b ∷ s) = cond (among ss (b ∷ s)) (b ∷ s) (longest ss s)

-- the longest proper suffix of s that is a node's string
abbrev pub back_string : List (List ℕ) → List ℕ → List ℕ
back_string ss [] = []
back_string ss (b ∷ s) = longest ss s

abbrev pub back_link : List (List ℕ) → List ℕ → ℕ
back_link ss s = number ss (back_string ss s)

-- the words that are suffixes of s, word k in bit k
abbrev pub suffix_mask : List (List ℕ) → List ℕ → ℕ
suffix_mask [] s = 0
suffix_mask (w ∷ ws) s = cond (ends_with s w) 1 0 + 2 * suffix_mask ws s

-- the words that are s, word k in bit k
abbrev pub own_mask : List (List ℕ) → List ℕ → ℕ
own_mask [] s = 0
own_mask (w ∷ ws) s = cond (same w s) 1 0 + 2 * own_mask ws s

-- the string reached from s by byte b: the longest suffix of s and b that is a node's string
abbrev pub step : List (List ℕ) → List ℕ → ℕ → List ℕ
step ss s b = longest ss (s ++ (b ∷ []))
