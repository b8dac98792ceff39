-- Single bits of numbers.
use Rattle.std.proofs.Common.{◌≡◌, ℕ, suc, ◌+◌, ◌-◌, ◌*◌, ◌/◌, ◌%◌, ◌^◌, ◌<◌, min, max, Bool, true, false, cond, ◌&&◌, ◌||◌, eqb, sym, refl, ap, ◌∙◌, one-add, arith}
use lib.Arith.{bin_ind}
use lib.Bits.{bit_and, bit_or, or_step}
use Rattle.std.proofs.lemmas.Bool.Decides.{nat_tests}
use Rattle.std.specs.Int.{bit_at}
use Rattle.std.proofs.lemmas.Nat.Bits.{bit_at-lt, bit_at-pow_other, bit_at-pow_same, bit_at-zero, bit_at_above, bit_at_and, bit_at_cat_high, bit_at_cat_low, bit_at_or}
use Rattle.bits.proofs.Bits as low
use Rattle.shift.specs.Register.{bit}

-- a test as a digit
abbrev pub digit : Bool → ℕ
digit t = cond t 1 0

-- it is below 2
pub digit-small : (t : Bool) → digit t < 2
digit-small t = grind (arith, nat_tests)

-- and 1 exactly if the test passes
pub digit_set : (t : Bool) → eqb (digit t) 1 ≡ t
digit_set t = grind (arith, nat_tests)

-- a bit is set as its digit is
abbrev is_one : ℕ → Bool
is_one d = eqb d 1

-- a number is too small for its higher bits
pub bit_past : (n p : ℕ) → n < 2 ^ p → bit n p ≡ false
bit_past n p small = ap is_one (bit_at_above n p p small (omega arith))

-- 0 has no bits
pub bit-zero : (p : ℕ) → bit 0 p ≡ false
bit-zero p = ap is_one (bit_at-zero p)

-- a number cut off at 2 ^ k keeps its bits below k
pub bit_cut : (n k p : ℕ) → p < k → bit (n % 2 ^ k) p ≡ bit n p
bit_cut n k p below = ap is_one (low.bit-low n k p below)

-- the bits of the low part of a number in two parts
pub bit-low : (a k m p : ℕ) → p < k → bit (a + 2 ^ k * m) p ≡ bit a p
bit-low a k m p below = ap (λ (n : ℕ). bit n p) (omega arith) ∙ ap is_one (bit_at_cat_low m k a p below)

-- the bits of the high part
pub bit_high : (a k m q : ℕ) → a < 2 ^ k → bit (a + 2 ^ k * m) (k + q) ≡ bit m q
bit_high a k m q small =
    let from : k + q - k ≡ q = omega arith in
    ap (λ (n : ℕ). bit n (k + q)) (omega arith) ∙ ap is_one (bit_at_cat_high m k a (k + q) small (omega arith)) ∙ ap (bit m) from

-- the lowest bit of a number that is put together
pub bit-first : (t : Bool) (m : ℕ) → bit (digit t + 2 * m) 0 ≡ t
bit-first t m = bit-low (digit t) 1 m 0 (omega arith) ∙ ap is_one (let small = digit-small t in omega arith) ∙ digit_set t

-- its other bits
pub bit-next : (t : Bool) (m p : ℕ) → bit (digit t + 2 * m) (suc p) ≡ bit m p
bit-next t m p = ap (bit (digit t + 2 * m)) (sym (one-add p)) ∙ bit_high (digit t) 1 m p (digit-small t)

-- two digits that are both set
digits_and : (a b : ℕ) → a < 2 → b < 2 → eqb (min a b) 1 ≡ (eqb a 1 && eqb b 1)
digits_and a b h g = grind (arith, nat_tests)

-- two digits, one of which is set
digits_or : (a b : ℕ) → a < 2 → b < 2 → eqb (max a b) 1 ≡ (eqb a 1 || eqb b 1)
digits_or a b h g = grind (arith, nat_tests)

-- the bits of an and
pub bit-and : (a b p : ℕ) → bit (bit_and a b) p ≡ (bit a p && bit b p)
bit-and a b p = ap is_one (bit_at_and a b p) ∙ digits_and (bit_at a p) (bit_at b p) (bit_at-lt a p) (bit_at-lt b p)

-- the bits of an or
pub bit-or : (a b p : ℕ) → bit (bit_or a b) p ≡ (bit a p || bit b p)
bit-or a b p = ap is_one (bit_at_or a b p) ∙ digits_or (bit_at a p) (bit_at b p) (bit_at-lt a p) (bit_at-lt b p)

-- the bits of a number shifted up by one
pub bit_shifted : (r p : ℕ) → bit (r * 2) (suc p) ≡ bit r p
bit_shifted r p = ap (λ (n : ℕ). bit n (suc p)) (omega arith) ∙ bit-next false r p

-- a power of two has its own bit
pub bit-own : (k : ℕ) → bit (2 ^ k) k ≡ true
bit-own k = ap is_one (bit_at-pow_same k)

-- and no other bit
pub bit-other : (k p : ℕ) → (k ≡ p → ⊥) → bit (2 ^ k) p ≡ false
bit-other k p other = ap is_one (bit_at-pow_other k p (λ same. other (sym same)))

-- an or may be grouped either way
pub or_assoc : (a b c : ℕ) → bit_or (bit_or a b) c ≡ bit_or a (bit_or b c)
or_assoc =
    bin_ind (λ (n : ℕ). (b c : ℕ) → bit_or (bit_or n b) c ≡ bit_or n (bit_or b c)) (λ b c. refl) (λ n half b c.
    let left = or_step (bit_or n b) c in
    let right = or_step n (bit_or b c) in
    let nb = or_step n b in
    let bc = or_step b c in
    let low : bit_or n b / 2 ≡ bit_or (n / 2) (b / 2) = omega arith in
    let high : bit_or b c / 2 ≡ bit_or (b / 2) (c / 2) = omega arith in
    let rest : bit_or (bit_or n b / 2) (c / 2) ≡ bit_or (n / 2) (bit_or b c / 2) = ap (λ x. bit_or x (c / 2)) low ∙ half (b / 2) (c / 2) ∙ ap (bit_or (n / 2)) (sym high) in
    omega arith)
