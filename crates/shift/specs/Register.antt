-- What the bits of a register mean: bit p says that a half-read string ends at run byte p.
use Rattle.std.specs.Prelude.{◌≡◌, ℕ, zero, suc, ◌+◌, ◌-◌, ◌*◌, ◌/◌, ◌%◌, ◌^◌, Bool, true, List, [], ◌∷◌, length, ◌==◌}
use Rattle.finder.specs.Words.{passing}
use Rattle.shift.specs.declared.edges.Edges.{Edges}

-- bit p of r is set
abbrev pub bit : ℕ → ℕ → Bool
bit r p = r / 2 ^ p % 2 == 1

-- of a word whose first byte is run byte `start`: length 0 is half-read, and i + 1 if bit start + i is set
abbrev pub is_half : ℕ → ℕ → ℕ → Bool
is_half r start zero = true
is_half r start (suc i) = bit r (start + i)

-- the half-read lengths of each word, the first of which begins at run byte `start`
abbrev pub halves_from : ℕ → List (List ℕ) → ℕ → List (List ℕ)
halves_from start [] r = []
halves_from start (w ∷ ws) r = passing (suc (length w)) 0 (is_half r start) ∷ halves_from (start + length w) ws r

-- the half-read lengths that a register holds
abbrev pub halves_of : List (List ℕ) → ℕ → List (List ℕ)
halves_of ws r = halves_from 0 ws r

-- the first bytes of the words, as bits
abbrev pub firsts_of : List (List ℕ) → ℕ
firsts_of [] = 0
firsts_of (w ∷ ws) = 1 + 2 ^ length w * firsts_of ws

-- the last bytes of the words, as bits
abbrev pub lasts_of : List (List ℕ) → ℕ
lasts_of [] = 0
lasts_of (w ∷ ws) = 2 ^ (length w - 1) + 2 ^ length w * lasts_of ws

-- edges of words have those bits
pub record Marks (ws : List (List ℕ)) (edges : Edges) : Type 0 where
  pub begins : edges.firsts ≡ firsts_of ws
  pub ends : edges.lasts ≡ lasts_of ws
