-- What a list of strings must be for its places to serve as the numbers of nodes.
use Rattle.std.specs.Prelude.{◌≡◌, ℕ, ◌+◌, ◌<◌, ◌≤◌, Bool, true, false, ◌⊎◌, List, [], ◌∷◌, ◌++◌, length, take}
use Rattle.std.specs.List.{ContainsAt as Has}
use Rattle.finder.specs.Meaning.{EndsWith}
use Rattle.nodes.specs.Nodes.{string, number}

-- the first string is the root's, which is empty
pub record Rooted (ss : List (List ℕ)) : Type 0 where
  pub some : 0 < length ss
  pub first : string ss 0 ≡ []

-- no string stands twice: each is at its number
abbrev pub Distinct : List (List ℕ) → Type 0
Distinct ss = (i : ℕ) → i < length ss → number ss (string ss i) ≡ i

-- the empty string is one of these, and with each other string what comes before its last byte
pub record Closed (ss : List (List ℕ)) : Type 0 where
  pub root : Has ss []
  pub shorter : (s : List ℕ) (b : ℕ) → Has ss (s ++ (b ∷ [])) → Has ss s

-- all of these
pub record Table (ss : List (List ℕ)) : Type 0 where
  pub rooted : Rooted ss
  pub distinct : Distinct ss
  pub closed : Closed ss

-- the string is the first bytes of a word, at least one
abbrev pub Begins : List (List ℕ) → List ℕ → Type 0
Begins ws s = (w : List ℕ) × (d : ℕ) × Has ws w × (1 ≤ d) × (d ≤ length w) × (s ≡ take d w)

-- of the suffixes of u that pass, r is the longest: each other one is a suffix of it
pub record Longest (Passes : List ℕ → Type 0) (u r : List ℕ) : Type 0 where
  pub passes : Passes r
  pub ends : EndsWith u r
  pub most : (t : List ℕ) → Passes t → EndsWith u t → EndsWith r t

-- the same of the suffixes that are shorter than u
pub record LongestProper (Passes : List ℕ → Type 0) (u r : List ℕ) : Type 0 where
  pub passes : Passes r
  pub ends : EndsWith u r
  pub shorter : length r < length u
  pub most : (t : List ℕ) → Passes t → EndsWith u t → length t < length u → EndsWith r t

-- no string from number n on passes
abbrev pub NoneFrom : List (List ℕ) → (List ℕ → Bool) → ℕ → Type 0
NoneFrom ss f n = (k : ℕ) → n ≤ k → k < length ss → f (string ss k) ≡ false

-- from number n on, string r is the first that passes
pub record Next (ss : List (List ℕ)) (f : List ℕ → Bool) (n r : ℕ) : Type 0 where
  pub from : n ≤ r
  pub within : r < length ss
  pub passes : f (string ss r) ≡ true
  pub before : (k : ℕ) → n ≤ k → k < r → f (string ss k) ≡ false

-- of these strings, string k is the first that passes
pub record First (ts : List (List ℕ)) (f : List ℕ → Bool) (k : ℕ) : Type 0 where
  pub within : k < length ts
  pub passes : f (string ts k) ≡ true
  pub before : (j : ℕ) → j < k → f (string ts j) ≡ false

-- either no string passes and r is 0, or r counts from n to the first that does
abbrev pub Answers : ℕ → List (List ℕ) → (List ℕ → Bool) → ℕ → Type 0
Answers n ts f r = ((r ≡ 0) × ((k : ℕ) → k < length ts → f (string ts k) ≡ false)) ⊎ ((k : ℕ) × First ts f k × (r ≡ n + k))
