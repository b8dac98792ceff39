-- The lowest set bit of a number taken off.
use Rattle.std.specs.Prelude.{◌≡◌, ℕ, ◌^◌, ◌<◌, Some, None, Option, ◌≢◌, bit_or}
use Rattle.finder.specs.Meaning.{Bit, ExactlyIf}

-- p is the lowest bit of n, and rest has the others
pub record Lowest (n p rest : ℕ) : Type 0 where
  pub place : p < 64
  pub set : Bit n p
  pub below : (k : ℕ) → k < p → Bit n k → ⊥
  pub others : (k : ℕ) → ExactlyIf (Bit rest k) (Bit n k × (k ≢ p))
  pub less : rest < n
  pub parts : n ≡ bit_or (2 ^ p) rest

-- the lowest bit comes off; where no bit is set there is none
abbrev pub TakesLowest : ℕ → Option ℕ → ℕ → Type 0
TakesLowest n (Some p) rest = Lowest n p rest
TakesLowest n None rest = (n ≡ 0) × (rest ≡ 0)
