-- The lowest set bit of a number, and the number without it.
use Rattle.std.proofs.Common.{◌≡◌, ℕ, zero, suc, ◌+◌, ◌-◌, ◌*◌, ◌/◌, ◌%◌, ◌^◌, ◌<◌, sym, refl, ap, ◌∙◌, subst, ⊎_elim, add-zero, arith}
use native.Mathlib.Nat.{pow-succ'}
use lib.Bits.{bit_and, bit_or, and_block, and_shifted, and_self, or_shifted_r}
use lib.Count.{count_trailing_zeros, under}
use Rattle.std.proofs.lemmas.Nat.{pow_pos}
use Rattle.std.proofs.lemmas.Bool.{cases_lt}
use Rattle.bits.specs.Lowest.{Lowest}
use Rattle.std.specs.Int.{bit_at}
use Rattle.std.proofs.lemmas.Nat.Bits.{bit_at_cat_low, bit_at_or, bit_at-pow_other, bit_at-pow_same, bit_at-zero}

-- p is the lowest set bit of n, and `above` the bits above it
record Splits (n k p : ℕ) : Type 0 where
  place : p < k
  above : ℕ
  is : n ≡ 2 ^ p + 2 ^ suc p * above

-- by the lowest digit: a set one is the lowest bit, and over a zero the bits of the half follow
splits_digit : (k n d t : ℕ) → n % 2 ≡ d → 0 < n → (0 < n / 2 → Splits (n / 2) k t) → Splits n (suc k) (under d t)
splits_digit k n zero t low some half =
    let rest = half (omega arith) in
    let place = rest.place in
    let one = pow-succ' 2 t in
    let two = pow-succ' 2 (suc t) in
    let is = rest.is in
    record { place = omega arith; above = rest.above; is = rw two (omega arith) }
splits_digit k n (suc d) t low some half = record { place = omega arith; above = n / 2; is = omega arith }

-- the trailing zeros of a number end at its lowest bit
splits : (k n : ℕ) → 0 < n → n < 2 ^ k → Splits n k (count_trailing_zeros k n)
unfolding count_trailing_zeros
splits zero n some small = absurd (omega arith)
splits (suc k) n some small =
    let twice = pow-succ' 2 k in
    splits_digit k n (n % 2) (count_trailing_zeros k (n / 2)) refl some (λ more. splits k (n / 2) more (omega arith))

-- a number less 1 has the bits above the lowest, and all below it
less_one : (p q : ℕ) → bit_and (2 ^ p + 2 ^ suc p * q) (2 ^ p + 2 ^ suc p * q - 1) ≡ q * 2 ^ suc p
less_one p q =
    let some = pow_pos p in
    let twice = pow-succ' 2 p in
    let block = and_block (suc p) q q (2 ^ p) (2 ^ p - 1) (omega arith) (omega arith) in
    let low : bit_and (2 ^ p) (2 ^ p - 1) ≡ 0 = ap (λ (x : ℕ). bit_and x (2 ^ p - 1)) (omega arith) ∙ and_shifted 1 p (2 ^ p - 1) (omega arith) in
    let same = and_self q in
    ap (λ (x : ℕ). bit_and x (2 ^ p + 2 ^ suc p * q - 1)) (omega arith) ∙ ap (bit_and (q * 2 ^ suc p + 2 ^ p)) (omega arith) ∙ block
    ∙ ap (λ (x : ℕ). x * 2 ^ suc p + bit_and (2 ^ p) (2 ^ p - 1)) same ∙ ap (λ (x : ℕ). q * 2 ^ suc p + x) low ∙ omega arith

-- a number is its lowest bit and those above it
lowest-parts : (p q : ℕ) → 2 ^ p + 2 ^ suc p * q ≡ bit_or (2 ^ p) (q * 2 ^ suc p)
lowest-parts p q =
    let twice = pow-succ' 2 p in
    let some = pow_pos p in
    omega arith ∙ sym (or_shifted_r q (suc p) (2 ^ p) (omega arith))

-- so its lowest bit comes off
lowest-at : (p q : ℕ) → p < 64 → Lowest (2 ^ p + 2 ^ suc p * q) p (q * 2 ^ suc p)
lowest-at p q place =
    let some = pow_pos p in
    let own = bit_at-pow_same p in
    let high : (k : ℕ) → k < suc p → bit_at (q * 2 ^ suc p) k ≡ 0 = λ k low. ap (λ (n : ℕ). bit_at n k) (sym (add-zero (q * 2 ^ suc p))) ∙ bit_at_cat_low q (suc p) 0 k low ∙ bit_at-zero k in
    let bits = λ (k : ℕ). ap (λ (n : ℕ). bit_at n k) (lowest-parts p q) ∙ bit_at_or (2 ^ p) (q * 2 ^ suc p) k in
    record {
      place = place;
      set = bits p ∙ omega (arith, high p (omega arith));
      below = λ k low set. omega (arith, bits k, bit_at-pow_other p k (omega arith), high k (omega arith));
      others = λ k. (
        λ set. ⊎_elim (λ low. absurd (omega (arith, high k low))) (λ up. (bits k ∙ omega arith, λ at. omega arith)) (cases_lt k (suc p)),
        λ (set, apart). let here = bits k in let other = bit_at-pow_other p k apart in omega arith,
      );
      less = omega arith;
      parts = lowest-parts p q;
    }

-- the trailing zeros of a number count up to its lowest bit, which the number less 1 has no more
pub lowest : (n : ℕ) → 0 < n → n < 2 ^ 64 → Lowest n (count_trailing_zeros 64 n) (bit_and n (n - 1))
lowest n some small =
    let found = splits 64 n some small in
    let p = count_trailing_zeros 64 n in
    subst (λ (x : ℕ). Lowest x p (bit_and x (x - 1))) (sym found.is)
    (subst (Lowest (2 ^ p + 2 ^ suc p * found.above) p) (sym (less_one p found.above)) (lowest-at p found.above found.place))
