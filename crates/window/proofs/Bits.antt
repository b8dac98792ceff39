-- A bit made what is told, and the bits of masks.
use Rattle.std.proofs.Common.{◌≡◌, ℕ, ◌+◌, ◌-◌, ◌*◌, ◌/◌, ◌%◌, ◌^◌, ◌<◌, ◌≤◌, Bool, true, false, sym, refl, ap, ◌∙◌, ⊎_elim, w64, arith}
use lib.Bits.{bit_and}
use Rattle.std.specs.Int.{bit_at}
use Rattle.std.proofs.Math.Nat.{mul-mod_left, mul_assoc}
use Rattle.std.proofs.lemmas.Nat.{pow_below, pow-add}
use Rattle.std.proofs.lemmas.Nat.Bits.{bit_at_and, bit_at_mask_below, bit_at_mask_inside, bit_at_not, bit_at_ones, bit_at_ones_above, bit_at_or, bit_at-pow_other, bit_at-pow_same, ones_shl, ones_shr}
use Rattle.std.proofs.lemmas.Bool.{cases_lt, false≢true}
use Rattle.finder.specs.Meaning.{ExactlyIf, Bit}
use Rattle.bits.proofs.Bits.{bit-both, bit-of_zero}
use Rattle.window.specs.Windows.{number_bits}
use Rattle.window.specs.Bits.{with_bit, Masks}

-- the bit that is made is what is told
pub with_bit-told : (n j : ℕ) (value : Bool) → j < number_bits → ExactlyIf (Bit (with_bit n j value) j) (value ≡ true)
with_bit-told n j true within = (λ _. refl, λ _. bit_at_or n (2 ^ j) j ∙ omega (arith, bit_at-pow_same j))
with_bit-told n j false within =
    let own = bit_at-pow_same j in
    let gone = bit_at_not w64 (2 ^ j) j (pow_below j number_bits within) within in
    (λ set. absurd (omega (arith, bit_at_and n (2 ^ number_bits - 1 - 2 ^ j) j)), λ told. absurd (false≢true told))

-- every other bit stays
pub with_bit-other : (n j k : ℕ) (value : Bool) → j < number_bits → k < number_bits → (k ≡ j → ⊥) → bit_at (with_bit n j value) k ≡ bit_at n k
with_bit-other n j k true at within apart = bit_at_or n (2 ^ j) k ∙ omega (arith, bit_at-pow_other j k apart)
with_bit-other n j k false at within apart =
    let other = bit_at-pow_other j k apart in
    let kept = bit_at_not w64 (2 ^ j) k (pow_below j number_bits at) within in
    bit_at_and n (2 ^ number_bits - 1 - 2 ^ j) k ∙ omega arith

-- all bits of a number moved up within it, and moved down, have those from one place to another in common
masked_within : (from to : ℕ) → from < number_bits → to < number_bits → Masks from to (bit_and ((2 ^ number_bits - 1) * 2 ^ from % 2 ^ number_bits) ((2 ^ number_bits - 1) / 2 ^ (number_bits - 1 - to)))
masked_within from to first last j within =
    let width : ℕ = number_bits - (number_bits - 1 - to) in
    let low = ap (λ (m : ℕ). bit_at m j) (ones_shl number_bits from (omega arith)) in
    let high = ap (λ (m : ℕ). bit_at m j) (ones_shr number_bits (number_bits - 1 - to) (omega arith)) in
    let (each, all) = bit-both ((2 ^ number_bits - 1) * 2 ^ from % 2 ^ number_bits) ((2 ^ number_bits - 1) / 2 ^ (number_bits - 1 - to)) j in (
      λ set. (
        ⊎_elim (λ below. absurd (omega (arith, (each set).0, low, bit_at_mask_below from number_bits j below))) (λ up. up) (cases_lt j from),
        ⊎_elim (λ past. absurd (omega (arith, (each set).1, high, bit_at_ones_above width j (omega arith)))) (λ up. omega arith) (cases_lt to j),
      ),
      λ (up, down). all (low ∙ bit_at_mask_inside from number_bits j up within, high ∙ bit_at_ones width j (omega arith)),
    )

-- moved up by as many places as a number has, or more, none is left
moved_out : (from : ℕ) → number_bits ≤ from → (2 ^ number_bits - 1) * 2 ^ from % 2 ^ number_bits ≡ 0
moved_out from past =
    let more : ℕ = from - number_bits in
    let all : ℕ = 2 ^ number_bits - 1 in
    let there : from ≡ more + number_bits = omega arith in
    ap (λ (n : ℕ). all * 2 ^ n % 2 ^ number_bits) there ∙ ap (λ (n : ℕ). all * n % 2 ^ number_bits) (pow-add 2 more number_bits)
    ∙ ap (λ (n : ℕ). n % 2 ^ number_bits) (sym (mul_assoc all (2 ^ more) (2 ^ number_bits))) ∙ mul-mod_left (all * 2 ^ more) (2 ^ number_bits)

-- so it is from any place on
pub masked : (from to : ℕ) → to < number_bits → Masks from to (bit_and ((2 ^ number_bits - 1) * 2 ^ from % 2 ^ number_bits) ((2 ^ number_bits - 1) / 2 ^ (number_bits - 1 - to)))
masked from to last j within =
    let (each, all) = bit-both ((2 ^ number_bits - 1) * 2 ^ from % 2 ^ number_bits) ((2 ^ number_bits - 1) / 2 ^ (number_bits - 1 - to)) j in
    ⊎_elim (λ first. masked_within from to first last j within)
    (λ past. (λ set. absurd (bit-of_zero j (ap (λ (n : ℕ). bit_at n j) (sym (moved_out from past)) ∙ (each set).0)), λ (up, down). absurd (omega arith)))
    (cases_lt from number_bits)
