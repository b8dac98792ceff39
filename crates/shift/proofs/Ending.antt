-- The words that a register has read whole, by the bits of their last bytes.
use Rattle.std.proofs.Common.{◌≡◌, ℕ, suc, ◌+◌, ◌-◌, ◌*◌, ◌/◌, ◌%◌, ◌^◌, ◌<◌, max, Bool, true, false, ◌&&◌, ◌||◌, List, [], ◌∷◌, length, get_or, sym, refl, ap, ◌∙◌, subst, ⊎_elim, mod-eq_of_lt, arith}
use native.Mathlib.Nat.{add-mul-div_left, add-mul-mod_self_left, mul-mod_right, div-eq_of_lt, pow-succ'}
use lib.Bits.{bit_or, or_step}
use lib.Count.{ones, ones_cat}
use Rattle.std.proofs.lemmas.Nat.{pow_pos, pow_below, mod-pow-add}
use Rattle.std.proofs.lemmas.Bool.{cases_order, false≢true}
use Rattle.std.proofs.lemmas.Bool.Decides.{same_from_decides, Decides-like, nat_tests}
use Rattle.finder.specs.Words.{passing, holds, mask}
use Rattle.finder.proofs.HalfRead.{decides_passing}
use Rattle.landmark.specs.Grammar.{sizes}
use Rattle.shift.specs.Register.{bit, is_half, halves_from, lasts_of}
use Rattle.shift.proofs.Bits.{digit, digit-small, bit-zero, bit-low, bit_high, bit-own, bit-other, bit-or}

-- no word is empty
abbrev pub SomeBytes : List (List ℕ) → Type 0
SomeBytes ws = (k : ℕ) → k < length ws → 0 < length (get_or ws k [])

-- the words whose last bit is set in r, word k in bit k; the first word begins at run byte `start`
abbrev pub ended : ℕ → List (List ℕ) → ℕ → ℕ
ended start [] r = 0
ended start (w ∷ ws) r = digit (bit r (start + length w - 1)) + 2 * ended (start + length w) ws r

-- a word is read whole exactly if its last bit is set
last_half : (r start : ℕ) (w : List ℕ) → 0 < length w → is_half r start (length w) ≡ bit r (start + length w - 1)
last_half r start [] some = absurd (omega arith)
last_half r start (x ∷ xs) some = ap (bit r) (omega arith)

-- so its whole length is half-read exactly if that bit is set
whole : (r start : ℕ) (w : List ℕ) → 0 < length w → holds (length w) (passing (suc (length w)) 0 (is_half r start)) ≡ bit r (start + length w - 1)
whole r start w some =
    same_from_decides _ _ (Decides-like _ (λ (from, below, passes). passes) (λ passes. (omega arith, omega arith, passes)) (decides_passing (is_half r start) (length w) (suc (length w)) 0)) (λ e. e, λ e. e)
    ∙ last_half r start w some

-- so the mask of a register goes by the last bits alone
pub mask-ended : (start : ℕ) (ws : List (List ℕ)) (r : ℕ) → SomeBytes ws → mask ws (halves_from start ws r) ≡ ended start ws r
mask-ended start [] r some = refl
mask-ended start (w ∷ ws) r some =
    let first = whole r start w (some 0 (omega arith)) in
    let rest = mask-ended (start + length w) ws r (λ k within. some (suc k) (omega arith)) in
    cc

-- no bit, no word
pub ended-none : (start : ℕ) (ws : List (List ℕ)) → ended start ws 0 ≡ 0
ended-none start [] = refl
ended-none start (w ∷ ws) = let first = bit-zero (start + length w - 1) in let rest = ended-none (start + length w) ws in ap (λ t. digit t + 2 * ended (start + length w) ws 0) first ∙ omega arith

-- the greater of two digits
max-digits : (t u : Bool) → max (digit t) (digit u) ≡ digit (t || u)
max-digits t u = grind (arith, nat_tests)

-- an or of two numbers that are put together
or_digits : (t u : Bool) (x y : ℕ) → bit_or (digit t + 2 * x) (digit u + 2 * y) ≡ digit (t || u) + 2 * bit_or x y
or_digits t u x y =
    let a = digit t + 2 * x in
    let b = digit u + 2 * y in
    let small = digit-small t in
    let little = digit-small u in
    let left : a / 2 ≡ x = omega arith in
    let right : b / 2 ≡ y = omega arith in
    let low : max (a % 2) (b % 2) ≡ digit (t || u) = omega (arith, max-digits t u) in
    or_step a b ∙ ap (λ (n : ℕ). bit_or n (b / 2) * 2 + max (a % 2) (b % 2)) left ∙ ap (λ (n : ℕ). bit_or x n * 2 + max (a % 2) (b % 2)) right ∙ omega arith

-- the words of bits put together
pub ended-or : (start : ℕ) (ws : List (List ℕ)) (a b : ℕ) → ended start ws (bit_or a b) ≡ bit_or (ended start ws a) (ended start ws b)
ended-or start [] a b = refl
ended-or start (w ∷ ws) a b =
    let at = start + length w - 1 in
    let this = bit-or a b at in
    let rest = ended-or (start + length w) ws a b in
    ap (λ t. digit t + 2 * ended (start + length w) ws (bit_or a b)) this ∙ ap (λ (n : ℕ). digit (bit a at || bit b at) + 2 * n) rest ∙ sym (or_digits (bit a at) (bit b at) (ended (start + length w) ws a) (ended (start + length w) ws b))

-- the last bit of a word
last_bit : (w : List ℕ) (ws : List (List ℕ)) → 0 < length w → bit (lasts_of (w ∷ ws)) (length w - 1) ≡ true
last_bit w ws some = bit-low (2 ^ (length w - 1)) (length w) (lasts_of ws) (length w - 1) (omega arith) ∙ bit-own (length w - 1)

-- and the last bits of the words behind it
later_bit : (w : List ℕ) (ws : List (List ℕ)) (q : ℕ) → 0 < length w → bit (lasts_of (w ∷ ws)) (length w + q) ≡ bit (lasts_of ws) q
later_bit w ws q some = bit_high (2 ^ (length w - 1)) (length w) (lasts_of ws) q (pow_below (length w - 1) (length w) (omega arith))

-- an and with a bit that is set
and_set : (x y z : Bool) → x ≡ (y && z) → z ≡ true → x ≡ y
and_set x true z is set = is ∙ set
and_set x false z is set = is

-- only the last bits count
pub ended-lasts : (start : ℕ) (ws : List (List ℕ)) (m r : ℕ) → SomeBytes ws → ((q : ℕ) → q < sizes ws → bit m (start + q) ≡ (bit r (start + q) && bit (lasts_of ws) q)) → ended start ws m ≡ ended start ws r
ended-lasts start [] m r some each = refl
ended-lasts start (w ∷ ws) m r some each =
    let first = some 0 (omega arith) in
    let at : start + (length w - 1) ≡ start + length w - 1 = omega arith in
    let last = last_bit w ws first in
    let here = each (length w - 1) (omega arith) in
    let this : bit m (start + length w - 1) ≡ bit r (start + length w - 1) = subst (λ (p : ℕ). bit m p ≡ bit r p) at (and_set _ _ _ here last) in
    let rest = ended-lasts (start + length w) ws m r (λ k within. some (suc k) (omega arith)) (λ q within.
    subst (λ (p : ℕ). bit m p ≡ (bit r p && bit (lasts_of ws) q)) (omega arith) (each (length w + q) (omega arith) ∙ ap (λ t. bit r (start + (length w + q)) && t) (later_bit w ws q first))) in
    cc

-- a bit in front of the words is the last of none
ended-before : (start p : ℕ) (ws : List (List ℕ)) → SomeBytes ws → p < start → ended start ws (2 ^ p) ≡ 0
ended-before start p [] some before = refl
ended-before start p (w ∷ ws) some before =
    let first = some 0 (omega arith) in
    let this = bit-other p (start + length w - 1) (λ e. omega arith) in
    let rest = ended-before (start + length w) p ws (λ k within. some (suc k) (omega arith)) (omega arith) in
    ap (λ t. digit t + 2 * ended (start + length w) ws (2 ^ p)) this ∙ omega arith

-- 0 has no bits
ones-zero : ones 0 ≡ 0
unfolding ones
ones-zero = refl

-- 1 has one bit
ones-one : ones 1 ≡ 1
unfolding ones
ones-one = refl

-- and so has every power of two
ones-pow : (n : ℕ) → ones (2 ^ n) ≡ 1
ones-pow n = ap ones (omega arith) ∙ ones_cat n 1 0 (pow_pos n) ∙ omega (arith, ones-one, ones-zero)

-- the last bits of a word and of the words behind it, below bit q of those
lasts_below : (w : List ℕ) (ws : List (List ℕ)) (q : ℕ) → 0 < length w → ones (lasts_of (w ∷ ws) % 2 ^ (length w + q)) ≡ suc (ones (lasts_of ws % 2 ^ q))
lasts_below w ws q some =
    let n = length w - 1 in
    let low = pow_below n (length w) (omega arith) in
    let none : 2 ^ n / 2 ^ length w ≡ 0 = div-eq_of_lt low in
    let high : lasts_of (w ∷ ws) / 2 ^ length w ≡ lasts_of ws = add-mul-div_left (2 ^ n) (lasts_of ws) (pow_pos (length w)) ∙ omega arith in
    let rest : lasts_of (w ∷ ws) % 2 ^ length w ≡ 2 ^ n = add-mul-mod_self_left (2 ^ n) (2 ^ length w) (lasts_of ws) ∙ mod-eq_of_lt low in
    let turned : length w + q ≡ q + length w = omega arith in
    let parts = ap (λ (j : ℕ). lasts_of (w ∷ ws) % 2 ^ j) turned ∙ mod-pow-add (lasts_of (w ∷ ws)) q (length w) in
    let both = ap (λ (x : ℕ). x % 2 ^ q * 2 ^ length w + lasts_of (w ∷ ws) % 2 ^ length w) high ∙ ap (λ (x : ℕ). lasts_of ws % 2 ^ q * 2 ^ length w + x) rest in
    ap ones (parts ∙ both) ∙ ones_cat (length w) (lasts_of ws % 2 ^ q) (2 ^ n) low ∙ omega (arith, ones-pow n)

-- below the last bit of the first word there is none
lasts_first : (w : List ℕ) (ws : List (List ℕ)) (q : ℕ) → 0 < length w → q ≡ length w - 1 → ones (lasts_of (w ∷ ws) % 2 ^ q) ≡ 0
lasts_first w ws q some is =
    let low : 2 ^ (length w - 1) ≡ 2 ^ q = ap (λ (j : ℕ). 2 ^ j) (sym is) in
    let high : 2 ^ length w ≡ 2 * 2 ^ q = ap (λ (j : ℕ). 2 ^ j) (omega arith) ∙ pow-succ' 2 q in
    let whole : lasts_of (w ∷ ws) ≡ 2 ^ q * (1 + 2 * lasts_of ws) = rw (low, high) (omega arith) in
    ap ones (ap (λ (x : ℕ). x % 2 ^ q) whole ∙ mul-mod_right (2 ^ q) (1 + 2 * lasts_of ws)) ∙ ones-zero

-- the last bit q is that of as many words as there are last bits below it
pub ended-one : (start : ℕ) (ws : List (List ℕ)) (q : ℕ) → SomeBytes ws → bit (lasts_of ws) q ≡ true → ended start ws (2 ^ (start + q)) ≡ 2 ^ ones (lasts_of ws % 2 ^ q)
ended-one start [] q some set = absurd (false≢true (sym (bit-zero q) ∙ set))
ended-one start (w ∷ ws) q some set =
    ⊎_elim here (⊎_elim before (behind (λ j. ended-one (start + length w) ws j (λ k within. some (suc k) (omega arith))))) (cases_order q (length w - 1))
  where
    first : 0 < length w
    first = some 0 (omega arith)

    here : q ≡ length w - 1 → ended start (w ∷ ws) (2 ^ (start + q)) ≡ 2 ^ ones (lasts_of (w ∷ ws) % 2 ^ q)
    here is =
        let positive = first in
        let at : start + length w - 1 ≡ start + q = omega arith in
        let this = ap (bit (2 ^ (start + q))) at ∙ bit-own (start + q) in
        let rest = ended-before (start + length w) (start + q) ws (λ k within. some (suc k) (omega arith)) (omega arith) in
        let none = ap (λ (j : ℕ). 2 ^ j) (lasts_first w ws q first is) in
        ap (λ t. digit t + 2 * ended (start + length w) ws (2 ^ (start + q))) this ∙ ap (λ (n : ℕ). 1 + 2 * n) rest ∙ sym none

    before : q < length w - 1 → ended start (w ∷ ws) (2 ^ (start + q)) ≡ 2 ^ ones (lasts_of (w ∷ ws) % 2 ^ q)
    before earlier =
        let positive = first in
        let other = bit-low (2 ^ (length w - 1)) (length w) (lasts_of ws) q (omega arith) ∙ bit-other (length w - 1) q (λ e. omega arith) in
        absurd (false≢true (sym other ∙ set))

    behind : ((j : ℕ) → bit (lasts_of ws) j ≡ true → ended (start + length w) ws (2 ^ (start + length w + j)) ≡ 2 ^ ones (lasts_of ws % 2 ^ j)) → length w - 1 < q → ended start (w ∷ ws) (2 ^ (start + q)) ≡ 2 ^ ones (lasts_of (w ∷ ws) % 2 ^ q)
    behind rest-one later =
        let positive = first in
        let j = q - length w in
        let at : length w + j ≡ q = omega arith in
        let set' = sym (later_bit w ws j first) ∙ ap (bit (lasts_of (w ∷ ws))) at ∙ set in
        let this = bit-other (start + q) (start + length w - 1) (λ e. omega arith) in
        let moved : start + q ≡ start + length w + j = omega arith in
        let same = ap (λ (p : ℕ). ended (start + length w) ws (2 ^ p)) moved in
        let rest = same ∙ rest-one j set' in
        let below = ap (λ (p : ℕ). ones (lasts_of (w ∷ ws) % 2 ^ p)) (sym at) ∙ lasts_below w ws j first in
        ap (λ t. digit t + 2 * ended (start + length w) ws (2 ^ (start + q))) this ∙ ap (λ (n : ℕ). 0 + 2 * n) rest
        ∙ sym (ap (λ (n : ℕ). 2 ^ n) below ∙ pow-succ' 2 (ones (lasts_of ws % 2 ^ j)) ∙ omega arith)
