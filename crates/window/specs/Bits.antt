-- One bit of a number made to be what is told, the bits from one place to another, and the bits of one window.
use Rattle.std.specs.Prelude.{◌≡◌, ℕ, ◌/◌, ◌-◌, ◌%◌, ◌^◌, ◌<◌, ◌≤◌, Bool, true, false, List, bit_and, bit_or, ◌≢◌}
use Rattle.finder.specs.Meaning.{ExactlyIf, Bit}
use Rattle.window.specs.Windows.{BitOf, number_bits, span}

-- the number with bit j set, or not set
abbrev pub with_bit : ℕ → ℕ → Bool → ℕ
with_bit n j true = bit_or n (2 ^ j)
with_bit n j false = bit_and n (2 ^ number_bits - 1 - 2 ^ j)

-- one bit of a window is made what is told, and the others stay
pub record MakesBit (before : List ℕ) (at : ℕ) (value : Bool) (after : List ℕ) : Type 0 where
  pub told : ExactlyIf (BitOf after at) (value ≡ true)
  pub other : (b : ℕ) → b < span → b ≢ at → ExactlyIf (BitOf after b) (BitOf before b)

-- the bits that are set are those from one place to another
abbrev pub Masks : ℕ → ℕ → ℕ → Type 0
Masks from to r = (j : ℕ) → j < number_bits → ExactlyIf (Bit r j) ((from ≤ j) × (j ≤ to))

-- some bit of one window from first to last is set
abbrev pub SomeBit : List ℕ → ℕ → ℕ → Type 0
SomeBit window first last = (b : ℕ) × (first ≤ b) × (b ≤ last) × BitOf window b

-- some such bit is one of number i
abbrev pub SomeBitIn : List ℕ → ℕ → ℕ → ℕ → Type 0
SomeBitIn window i first last = (b : ℕ) × (first ≤ b) × (b ≤ last) × (b / number_bits ≡ i) × BitOf window b

-- some end from low to high has its bit set in one window
abbrev pub SomeBitAround : List ℕ → ℕ → ℕ → Type 0
SomeBitAround window low high = (e : ℕ) × (low ≤ e) × (e ≤ high) × BitOf window (e % span)
