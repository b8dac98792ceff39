-- The mask of the words that a string ends with, word by word.
use Rattle.std.proofs.Common.{◌≡◌, ℕ, suc, ◌+◌, ◌-◌, ◌*◌, ◌%◌, ◌^◌, ◌<◌, Bool, true, false, cond, List, [], ◌∷◌, ◌++◌, length, take, drop, nat_eq, sym, refl, ap, ◌∙◌, subst, one-mul, arith}
use native.Mathlib.Nat.{pow-succ'}
use lib.Bits.{bit_or, or_shifted_r}
use Rattle.std.specs.Cmp.Lexicographic.{pointwise}
use Rattle.std.proofs.lemmas.Nat.{one_shl}
use Rattle.std.proofs.lemmas.Slice.Eq.{ends_is}
use Rattle.std.proofs.lemmas.List.{length-take-le, take_more}
use Rattle.std.proofs.lemmas.Bool.{cond-false, cond-true}
use Rattle.std.proofs.lemmas.Bool.Decides.{same_from_decides, Decides-eqb}
use Rattle.finder.specs.Words.{ends_with, word}
use Rattle.finder.proofs.HalfRead.{decides_ends_with}
use Rattle.nodes.specs.Nodes.{suffix_mask}
use Rattle.nodes.proofs.Meaning.{suffix_mask-below}

-- what the test of an end tells
pub ends-test : (s w : List ℕ) (r : Bool) → r ≡ pointwise nat_eq w (drop (length s - length w) s) → r ≡ ends_with s w
ends-test s w r test = let (there, back) = ends_is Decides-eqb s w r test in same_from_decides r (ends_with s w) (λ is. (take (length s - length w) s, there is), λ ends. back ends.0 ends.1) (decides_ends_with s w)

-- a bit one place higher is twice as much
bit-double : (t : Bool) (n : ℕ) → cond t (2 ^ suc n) 0 ≡ 2 * cond t (2 ^ n) 0
bit-double true n = pow-succ' 2 n
bit-double false n = refl

-- one word more adds its bit where it is a suffix
mask-push : (ws : List (List ℕ)) (w s : List ℕ) → suffix_mask (ws ++ (w ∷ [])) s ≡ suffix_mask ws s + cond (ends_with s w) (2 ^ length ws) 0
mask-push [] w s = omega arith
mask-push (v ∷ ws) w s = omega (arith, mask-push ws w s, bit-double (ends_with s w) (length ws))

module _ (ws : List (List ℕ)) (s : List ℕ) (j : ℕ) (inside : j < length ws) where
  mask-more : suffix_mask (take (j + 1) ws) s ≡ suffix_mask (take j ws) s + cond (ends_with s (word ws j)) (2 ^ j) 0
  mask-more =
      ap (λ us. suffix_mask us s) (take_more ws j [] inside) ∙ mask-push (take j ws) (word ws j) s
      ∙ ap (λ n. suffix_mask (take j ws) s + cond (ends_with s (word ws j)) (2 ^ n) 0) (length-take-le j ws (omega arith))

  -- a word that is no suffix leaves the mask
  pub mask-kept : ends_with s (word ws j) ≡ false → suffix_mask (take j ws) s ≡ suffix_mask (take (j + 1) ws) s
  mask-kept other = sym (mask-more ∙ ap (λ n. suffix_mask (take j ws) s + n) (cond-false _ (2 ^ j) 0 other) ∙ omega arith)

  -- and one that is puts its bit in
  pub mask-set : j < 64 → ends_with s (word ws j) ≡ true → bit_or (suffix_mask (take j ws) s) ((1 * 2 ^ j) % 2 ^ 64) ≡ suffix_mask (take (j + 1) ws) s
  mask-set few ends =
      let m = suffix_mask (take j ws) s in
      let small : m < 2 ^ j = subst (λ n. m < 2 ^ n) (length-take-le j ws (omega arith)) (suffix_mask-below (take j ws) s) in
      let bit : (1 * 2 ^ j) % 2 ^ 64 ≡ 1 * 2 ^ j = one_shl j 64 few ∙ sym (one-mul (2 ^ j)) in
      ap (bit_or m) bit ∙ or_shifted_r 1 j m small ∙ sym (mask-more ∙ ap (λ n. m + n) (cond-true _ (2 ^ j) 0 ends) ∙ omega arith)
