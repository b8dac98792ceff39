-- Masks: how large one is, which bits are set, and the masks of parts and of rows put together.
use Rattle.std.proofs.Common.{◌≡◌, ℕ, zero, suc, ◌+◌, ◌*◌, ◌/◌, ◌%◌, ◌^◌, ◌<◌, ◌≤◌, Bool, true, false, cond, List, [], ◌∷◌, ◌++◌, length, get_or, take, Decides, sym, refl, ap, ◌∙◌, lt_of_lt_of_le, mod-eq_of_lt, add-one, one-add, arith, pow_mono}
use native.Mathlib.Nat.{pow-succ', div-eq_of_lt}
use Rattle.std.proofs.lemmas.Nat.{pow_pos, shr-shr, mod-pow-add}
use Rattle.std.proofs.lemmas.Bool.{false≢true}
use Rattle.std.proofs.lemmas.Bool.Decides.{Decides-like, nat_tests}
use Rattle.finder.specs.Words.{word, holds, mask, at_rest}
use Rattle.finder.specs.Meaning.{Bit}

-- one bit of a number
abbrev one_bit : Bool → ℕ
one_bit t = cond t 1 0

-- it is below 2
one_bit-small : (t : Bool) → one_bit t < 2
one_bit-small true = omega arith
one_bit-small false = omega arith

-- a bit is 1 exactly if it is set
decides_one_bit : (t : Bool) → Decides t (one_bit t ≡ 1)
decides_one_bit true = (λ _. refl, λ _. refl)
decides_one_bit false = (λ e. absurd (false≢true e), λ e. absurd (omega arith))

-- a mask is below the power of two of its words
pub mask_below : (ws hss : List (List ℕ)) → mask ws hss < 2 ^ length ws
mask_below [] hss = omega arith
mask_below (w ∷ ws) [] = pow_pos (suc (length ws))
mask_below (w ∷ ws) (hs ∷ hss) =
    let small = one_bit-small (holds (length w) hs) in
    let rest = mask_below ws hss in
    rw (pow-succ' 2 (length ws)) (omega arith)

-- the first bit of a number that is put together
bit-first : (t : Bool) (m : ℕ) → (one_bit t + 2 * m) / 2 ^ 0 % 2 ≡ one_bit t
bit-first t m = let small = one_bit-small t in omega arith

-- its other bits
bit-next : (t : Bool) (m k : ℕ) → (one_bit t + 2 * m) / 2 ^ suc k ≡ m / 2 ^ k
bit-next t m k =
    let small = one_bit-small t in
    let half : (one_bit t + 2 * m) / 2 ≡ m = omega arith in
    ap (λ (j : ℕ). (one_bit t + 2 * m) / 2 ^ j) (sym (one-add k)) ∙ sym (shr-shr (one_bit t + 2 * m) 1 k) ∙ ap (λ (n : ℕ). n / 2 ^ k) half

-- bit k of a mask says whether word k is read whole
pub mask_at : (ws hss : List (List ℕ)) (k : ℕ) → length hss ≡ length ws → k < length ws → mask ws hss / 2 ^ k % 2 ≡ cond (holds (length (word ws k)) (get_or hss k [])) 1 0
mask_at [] hss k one within = absurd (omega arith)
mask_at (w ∷ ws) [] k one within = absurd (omega arith)
mask_at (w ∷ ws) (hs ∷ hss) zero one within = bit-first (holds (length w) hs) (mask ws hss)
mask_at (w ∷ ws) (hs ∷ hss) (suc k) one within =
    ap (λ (m : ℕ). m % 2) (bit-next (holds (length w) hs) (mask ws hss) k) ∙ mask_at ws hss k (omega arith) (omega arith)

-- so the bit is set exactly if the word is read whole
pub mask-bit : (ws hss : List (List ℕ)) (k : ℕ) → length hss ≡ length ws → k < length ws → Decides (holds (length (word ws k)) (get_or hss k [])) (Bit (mask ws hss) k)
mask-bit ws hss k one within = Decides-like _ (λ e. mask_at ws hss k one within ∙ e) (λ e. sym (mask_at ws hss k one within) ∙ e) (decides_one_bit (holds (length (word ws k)) (get_or hss k [])))

-- no bit past the words is set
pub mask-past : (ws hss : List (List ℕ)) (k : ℕ) → length ws ≤ k → Bit (mask ws hss) k → ⊥
mask-past ws hss k past is =
    let none : mask ws hss / 2 ^ k ≡ 0 = div-eq_of_lt (lt_of_lt_of_le (mask_below ws hss) (pow_mono past)) in
    omega arith

-- before any byte no word is read whole, if none is empty
pub mask-at_rest : (ws : List (List ℕ)) → ((k : ℕ) → k < length ws → 0 < length (word ws k)) → mask ws (at_rest ws) ≡ 0
mask-at_rest [] some = refl
mask-at_rest (w ∷ ws) some =
    let first : 0 < length w = some 0 (omega arith) in
    let none : holds (length w) (0 ∷ []) ≡ false = grind (arith, nat_tests) in
    let rest = mask-at_rest ws (λ k within. some (suc k) (omega arith)) in
    ap (λ t. one_bit t + 2 * mask ws (at_rest ws)) none ∙ omega arith

-- the mask of two rows, one behind the other
pub mask_append : (ws hss ws' hss' : List (List ℕ)) → length hss ≡ length ws → mask (ws ++ ws') (hss ++ hss') ≡ mask ws' hss' * 2 ^ length ws + mask ws hss
mask_append [] [] ws' hss' one = omega arith
mask_append [] (hs ∷ hss) ws' hss' one = absurd (omega arith)
mask_append (w ∷ ws) [] ws' hss' one = absurd (omega arith)
mask_append (w ∷ ws) (hs ∷ hss) ws' hss' one =
    let rest = mask_append ws hss ws' hss' (omega arith) in
    rw (pow-succ' 2 (length ws)) (omega arith)

-- the mask of the first n words is the first n bits
pub mask-take : (n : ℕ) (ws hss : List (List ℕ)) → mask (take n ws) (take n hss) ≡ mask ws hss % 2 ^ n
mask-take zero ws hss = omega arith
mask-take (suc n) [] hss = sym (mod-eq_of_lt (pow_pos (suc n)))
mask-take (suc n) (w ∷ ws) [] = sym (mod-eq_of_lt (pow_pos (suc n)))
mask-take (suc n) (w ∷ ws) (hs ∷ hss) =
    let all : ℕ = one_bit (holds (length w) hs) + 2 * mask ws hss in
    let small = one_bit-small (holds (length w) hs) in
    let half : all / 2 ≡ mask ws hss = omega arith in
    let odd : all % 2 ≡ one_bit (holds (length w) hs) = omega arith in
    let parts : all % 2 ^ (n + 1) ≡ mask ws hss % 2 ^ n * 2 + one_bit (holds (length w) hs) = mod-pow-add all n 1 ∙ ap (λ (m : ℕ). m % 2 ^ n * 2 + all % 2) half ∙ ap (λ (c : ℕ). mask ws hss % 2 ^ n * 2 + c) odd in
    let rest = mask-take n ws hss in
    let next : all % 2 ^ suc n ≡ all % 2 ^ (n + 1) = ap (λ (j : ℕ). all % 2 ^ j) (sym (add-one n)) in
    omega arith
