-- Bits of numbers, beside the laws of the library.
use Rattle.std.proofs.Common.{◌≡◌, ℕ, zero, suc, ◌-◌, ◌*◌, ◌/◌, ◌%◌, ◌^◌, ◌<◌, sym, ap, ◌∙◌, ⊎_elim, mod-eq_of_lt, arith}
use native.Mathlib.Nat.{pow-succ'}
use lib.Bits.{bit_and, bit_xor, xor_add_and, and_mask, and_comm}
use Rattle.std.specs.Int.{bit_at}
use Rattle.std.proofs.lemmas.Bool.{cases_eq}
use Rattle.std.proofs.lemmas.Nat.Bits.{bit_at-zero, bit_at-suc, bit_at_and, bit_at_xor, bit_at_ones, bit_at_cat_low}
use Rattle.finder.specs.Meaning.{ExactlyIf, Bit}

-- 0 has no bit
pub bit-of_zero : (k : ℕ) → Bit 0 k → ⊥
bit-of_zero k set = let none = bit_at-zero k in omega arith

-- any other number has a bit
pub some_bit : (w n : ℕ) → n < 2 ^ w → 0 < n → (k : ℕ) × (k < w) × Bit n k
some_bit zero n small some = absurd (omega arith)
some_bit (suc w) n small some =
    ⊎_elim (λ odd. (0, omega arith, omega arith))
    (λ even.
    let below : n < 2 * 2 ^ w = rw (pow-succ' 2 w) at small in
    let (k, within, set) = some_bit w (n / 2) (omega arith) (omega arith) in
    (suc k, omega arith, bit_at-suc n k ∙ set))
    (cases_eq (n % 2) 1)

-- the lower bits of a number are its own
pub bit-low : (n w k : ℕ) → k < w → bit_at (n % 2 ^ w) k ≡ bit_at n k
bit-low n w k within = sym (bit_at_cat_low (n / 2 ^ w) w (n % 2 ^ w) k within) ∙ ap (λ (m : ℕ). bit_at m k) (omega arith)

-- a bit of a complement is the other bit
pub bit-complement : (w m k : ℕ) → m < 2 ^ w → k < w → bit_at (2 ^ w - 1 - m) k ≡ 1 - bit_at m k
bit-complement w m k small within =
    let all : bit_and (2 ^ w - 1) m ≡ m = and_comm (2 ^ w - 1) m ∙ and_mask m w ∙ mod-eq_of_lt small in
    let differs : 2 ^ w - 1 - m ≡ bit_xor (2 ^ w - 1) m = omega (arith, xor_add_and (2 ^ w - 1) m) in
    ap (λ (n : ℕ). bit_at n k) differs ∙ bit_at_xor (2 ^ w - 1) m k ∙ omega (arith, bit_at_ones w k within)

-- equal bits are both set or both not
pub same_bit : {c d : ℕ} → c ≡ d → ExactlyIf (c ≡ 1) (d ≡ 1)
same_bit same = (λ set. sym same ∙ set, λ set. same ∙ set)

-- an and has the bits that both have
pub bit-both : (a b k : ℕ) → ExactlyIf (Bit (bit_and a b) k) (Bit a k × Bit b k)
bit-both a b k = let both = bit_at_and a b k in (λ set. (omega arith, omega arith), λ (one, other). omega arith)
