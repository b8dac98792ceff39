-- Going over the set bits of a number from the lowest on, one word to each.
use Rattle.std.proofs.Common.{◌≡◌, ℕ, ◌-◌, ◌*◌, ◌%◌, ◌^◌, ◌<◌, true, List, sym, ap, ◌∙◌, arith}
use lib.Bits.{bit_and, bit_or}
use lib.Count.{ones}
use Rattle.std.proofs.lemmas.Nat.{one_shl, and_mask, ones-le, mod_below, pow_pos}
use Rattle.std.proofs.lemmas.Bool.{and_parts, eq-eqb, eqb-true}
use Rattle.bits.specs.Lowest.{Lowest}
use Rattle.shift.specs.Register.{bit, lasts_of}
use Rattle.shift.proofs.Bits.{bit-and, or_assoc}
use Rattle.shift.proofs.Ending.{SomeBytes, ended, ended-or, ended-one}

-- only last bits are left
abbrev pub OnlyLasts : ℕ → ℕ → Type 0
OnlyLasts lasts left = (p : ℕ) → bit left p ≡ true → bit lasts p ≡ true

-- an and with the last bits has only those
pub only_lasts : (r lasts : ℕ) → OnlyLasts lasts (bit_and r lasts)
only_lasts r lasts p set = (and_parts (bit r p) (bit lasts p) (sym (bit-and r lasts p) ∙ set)).1

-- and so has what is left of such a number
pub only_still : (left other lasts : ℕ) → OnlyLasts lasts left → OnlyLasts lasts (bit_and left other)
only_still left other lasts only p set = only p (and_parts (bit left p) (bit other p) (sym (bit-and left other p) ∙ set)).0

-- some bits are left, of the last bytes of these words, and the lowest comes off
module _ (ws : List (List ℕ)) (lasts left p rest : ℕ) (some : SomeBytes ws) (is : lasts ≡ lasts_of ws) (only : OnlyLasts lasts left) (low : Lowest left p rest) where
  -- the others are last bits too
  pub only_rest : OnlyLasts lasts rest
  only_rest q set = only q (eq-eqb _ _ ((low.others q).0 (eqb-true _ _ set)).0)

  -- the bits below the lowest
  below : bit_and lasts (1 * 2 ^ p % 2 ^ 64 - 1) ≡ lasts_of ws % 2 ^ p
  below = ap (λ (n : ℕ). bit_and lasts (n - 1)) (one_shl p 64 low.place) ∙ and_mask lasts p ∙ ap (λ (n : ℕ). n % 2 ^ p) is

  -- so many words end before it
  pub word_small : ones (bit_and lasts (1 * 2 ^ p % 2 ^ 64 - 1)) < 64
  word_small = omega (arith, ap ones below, ones-le p (lasts_of ws % 2 ^ p) (mod_below (lasts_of ws) (2 ^ p) (pow_pos p)), low.place)

  -- the words of the bits left are that of the lowest, and those of the others
  lowest-word : ended 0 ws left ≡ bit_or (2 ^ ones (lasts_of ws % 2 ^ p)) (ended 0 ws rest)
  lowest-word =
      let last = ap (λ (n : ℕ). bit n p) (sym is) ∙ only p (eq-eqb _ _ low.set) in
      let one = ap (λ (n : ℕ). ended 0 ws (2 ^ n)) (omega arith) ∙ ended-one 0 ws p some last in
      ap (ended 0 ws) low.parts ∙ ended-or 0 ws (2 ^ p) rest ∙ ap (λ (n : ℕ). bit_or n (ended 0 ws rest)) one

  -- one word more is found, and one bit less is left
  pub cleared : (mask : ℕ) → bit_or (bit_or mask (1 * 2 ^ ones (bit_and lasts (1 * 2 ^ p % 2 ^ 64 - 1)) % 2 ^ 64)) (ended 0 ws rest) ≡ bit_or mask (ended 0 ws left)
  cleared mask =
      let one = one_shl _ 64 word_small ∙ ap (λ (n : ℕ). 2 ^ ones n) below in
      ap (λ (n : ℕ). bit_or (bit_or mask n) (ended 0 ws rest)) one ∙ or_assoc mask _ (ended 0 ws rest) ∙ ap (bit_or mask) (sym lowest-word)
