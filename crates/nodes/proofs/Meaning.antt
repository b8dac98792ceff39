-- What a node's string means for the words: half-read lengths and masks.
use Rattle.std.proofs.Common.{◌≡◌, ℕ, suc, ◌+◌, ◌*◌, ◌/◌, ◌%◌, ◌^◌, ◌<◌, ◌≤◌, max, Bool, true, false, cond, ◌||◌, ◌⊎◌, List, [], ◌∷◌, ◌++◌, map, length, take, Decides, sym, refl, ap, ◌∙◌, subst, inl, inr, ⊎_elim, one-mul, arith}
use native.Mathlib.Nat.{pow-succ'}
use lib.Bits.{bit_or, or_step, or_zero_r, or_shifted_r}
use Rattle.std.specs.List.{ContainsAt as Has, AllByRecursion}
use Rattle.std.proofs.lemmas.List.{length-map, get_or-map}
use Rattle.std.proofs.ByRecursion.{All-weaker, all_has_itself}
use Rattle.std.proofs.lemmas.Bool.{cases_lt, or_parts}
use Rattle.std.proofs.lemmas.Bool.Decides.{Decides-like, Decides-or, same_from_decides, nat_tests}
use Rattle.finder.specs.Words.{same, ends_with, word, defined, half_read, advance_all, holds, mask}
use Rattle.finder.specs.Meaning.{ExactlyIf, EndsWith, Bit}
use Rattle.finder.proofs.HalfRead.{decides_same, decides_ends_with, decides_whole, defined-same, advance-half_read, half_read-nothing, length-half_read, word-half_read}
use Rattle.finder.proofs.Masks.{mask_below, mask-bit, mask-past, mask-at_rest}
use Rattle.nodes.specs.Nodes.{among, strings, longest, back_string, step, suffix_mask, own_mask}
use Rattle.nodes.proofs.Suffixes.{ends-itself, ends-trans, ends-whole}
use Rattle.nodes.proofs.Strings.{among_none, has_root, has_front, has_word}
use Rattle.nodes.proofs.Back.{longest-is, back_is}

-- two functions that agree on each word give the same list
map_same : {B : Type 0} (f g : List ℕ → B) (ws : List (List ℕ)) → AllByRecursion (λ w. f w ≡ g w) ws → map f ws ≡ map g ws
map_same f g [] each = refl
map_same f g (w ∷ ws) (this, rest) = let more = map_same f g ws rest in cc

-- where the first bytes of a word are all nodes, the longest suffix defines the lengths of that word that the whole does
defined-longest : (ss : List (List ℕ)) → Has ss [] → (u w : List ℕ) → ((h : ℕ) → h ≤ length w → Has ss (take h w)) → defined (longest ss u) w ≡ defined u w
defined-longest ss root u w fronts =
    let is = longest-is ss root u in
    defined-same (longest ss u) u w (λ h within. (ends-trans u (longest ss u) (take h w) is.ends, is.most (take h w) (fronts h within)))

-- so of every word: the longest suffix that is a node's string means what the whole means
pub half_read-longest : (ws : List (List ℕ)) (u : List ℕ) → half_read ws (longest (strings ws) u) ≡ half_read ws u
half_read-longest ws u = map_same _ _ ws (All-weaker (Has ws) _ (λ w has. defined-longest (strings ws) (has_root ws) u w (λ h within. has_front ws w h has within)) ws (all_has_itself ws))

-- a step between nodes is a step of the finder's meaning
pub half_read-step : (ws : List (List ℕ)) (s : List ℕ) (b : ℕ) → half_read ws (step (strings ws) s b) ≡ advance_all ws b (half_read ws s)
half_read-step ws s b = half_read-longest ws (s ++ (b ∷ [])) ∙ sym (advance-half_read ws b s)

-- the words that are suffixes are those that are read whole
pub suffix_mask-is : (ws : List (List ℕ)) (s : List ℕ) → suffix_mask ws s ≡ mask ws (half_read ws s)
suffix_mask-is [] s = refl
suffix_mask-is (w ∷ ws) s = let this = same_from_decides _ _ (decides_ends_with s w) (decides_whole s w) in let rest = suffix_mask-is ws s in cc

-- they fit below the power of two of the words
pub suffix_mask-below : (ws : List (List ℕ)) (s : List ℕ) → suffix_mask ws s < 2 ^ length ws
suffix_mask-below ws s = rw (suffix_mask-is ws s) (mask_below ws (half_read ws s))

-- two facts that one test decides follow from each other
exactly_from_decides : {P Q : Type 0} (r : Bool) → Decides r P → Decides r Q → ExactlyIf P Q
exactly_from_decides r this other = (λ p. other.0 (this.1 p), λ q. this.0 (other.1 q))

-- bit k is set exactly if word k is a suffix
pub suffix_mask-bit : (ws : List (List ℕ)) (s : List ℕ) (k : ℕ) → k < length ws → ExactlyIf (Bit (suffix_mask ws s) k) (EndsWith s (word ws k))
suffix_mask-bit ws s k within = rw (suffix_mask-is ws s) (exactly_from_decides _ (rw (word-half_read ws s k within) at (mask-bit ws (half_read ws s) k (length-half_read ws s) within)) (decides_whole s (word ws k)))

-- and no bit past the words
pub suffix_mask-past : (ws : List (List ℕ)) (s : List ℕ) (k : ℕ) → length ws ≤ k → Bit (suffix_mask ws s) k → ⊥
suffix_mask-past ws s k past = rw (suffix_mask-is ws s) (mask-past ws (half_read ws s) k past)

-- the root is the end of no word, if none is empty
pub suffix_mask-root : (ws : List (List ℕ)) → ((k : ℕ) → k < length ws → 0 < length (word ws k)) → suffix_mask ws [] ≡ 0
suffix_mask-root ws some = suffix_mask-is ws [] ∙ ap (mask ws) (half_read-nothing ws) ∙ mask-at_rest ws some

-- half lists in which exactly the words that are s are whole
abbrev own_halves : List (List ℕ) → List ℕ → List (List ℕ)
own_halves ws s = map (λ w. cond (same w s) (length w ∷ []) []) ws

-- their test
holds-own : (t : Bool) (n : ℕ) → holds n (cond t (n ∷ []) []) ≡ t
holds-own true n = grind (arith, nat_tests)
holds-own false n = refl

-- their mask is that of the words that are s
own_mask-is : (ws : List (List ℕ)) (s : List ℕ) → own_mask ws s ≡ mask ws (own_halves ws s)
own_mask-is [] s = refl
own_mask-is (w ∷ ws) s = let this = holds-own (same w s) (length w) in let rest = own_mask-is ws s in cc

-- it fits below the power of two of the words
pub own_mask-below : (ws : List (List ℕ)) (s : List ℕ) → own_mask ws s < 2 ^ length ws
own_mask-below ws s = rw (own_mask-is ws s) (mask_below ws (own_halves ws s))

-- bit k is set exactly if word k is s
pub own_mask-bit : (ws : List (List ℕ)) (s : List ℕ) (k : ℕ) → k < length ws → ExactlyIf (Bit (own_mask ws s) k) (word ws k ≡ s)
own_mask-bit ws s k within =
    let w = word ws k in
    let read = ap (holds (length w)) (get_or-map (λ w. cond (same w s) (length w ∷ []) []) ws k [] [] within) ∙ holds-own (same w s) (length w) in
    rw (own_mask-is ws s) (exactly_from_decides _ (rw read at (mask-bit ws (own_halves ws s) k (length-map ws _) within)) (decides_same w s))

-- a string that is no word has no bit
pub own_mask-none : (ws : List (List ℕ)) (s : List ℕ) → (Has ws s → ⊥) → own_mask ws s ≡ 0
own_mask-none ws s not = none ws (among_none ws s not)
  where
    none : (vs : List (List ℕ)) → among vs s ≡ false → own_mask vs s ≡ 0
    none [] is = refl
    none (v ∷ vs) is = let (here, rest) = or_parts (same v s) (among vs s) is in let more = none vs rest in ap (λ t. cond t 1 0 + 2 * own_mask vs s) here ∙ omega arith

-- a bit one place higher is twice as much
bit-double : (t : Bool) (n : ℕ) → cond t (2 ^ suc n) 0 ≡ 2 * cond t (2 ^ n) 0
bit-double true n = pow-succ' 2 n
bit-double false n = refl

-- one word more sets its bit at the string that it is
pub own_mask-push : (ws : List (List ℕ)) (w s : List ℕ) → own_mask (ws ++ (w ∷ [])) s ≡ own_mask ws s + cond (same w s) (2 ^ length ws) 0
own_mask-push [] w s = omega arith
own_mask-push (v ∷ ws) w s = omega (arith, own_mask-push ws w s, bit-double (same w s) (length ws))

-- a bit above a number is put in by `bit_or` as by a sum
or_above : (t : Bool) (m n : ℕ) → m < 2 ^ n → bit_or m (cond t (2 ^ n) 0) ≡ m + cond t (2 ^ n) 0
or_above true m n small = ap (bit_or m) (sym (one-mul (2 ^ n))) ∙ or_shifted_r 1 n m small ∙ omega arith
or_above false m n small = or_zero_r m ∙ omega arith

-- so the bit is set by `bit_or`
pub own_mask-or : (ws : List (List ℕ)) (w s : List ℕ) → own_mask (ws ++ (w ∷ [])) s ≡ bit_or (own_mask ws s) (cond (same w s) (2 ^ length ws) 0)
own_mask-or ws w s = own_mask-push ws w s ∙ sym (or_above (same w s) (own_mask ws s) (length ws) (own_mask-below ws s))

-- one bit of two numbers
max-bits : (a b : Bool) → max (cond a 1 0) (cond b 1 0) ≡ cond (a || b) 1 0
max-bits true true = refl
max-bits true false = refl
max-bits false true = refl
max-bits false false = refl

-- a number that is put together, taken apart
apart : (t : Bool) (m : ℕ) → ((cond t 1 0 + 2 * m) / 2 ≡ m) × ((cond t 1 0 + 2 * m) % 2 ≡ cond t 1 0)
apart true m = (omega arith, omega arith)
apart false m = (omega arith, omega arith)

-- `bit_or` of two numbers that are put together goes bit by bit
or_bits : (a b : Bool) (m n : ℕ) → bit_or (cond a 1 0 + 2 * m) (cond b 1 0 + 2 * n) ≡ cond (a || b) 1 0 + 2 * bit_or m n
or_bits a b m n =
    let (x, p) = apart a m in
    let (y, q) = apart b n in
    let both = max-bits a b in
    let step : bit_or (cond a 1 0 + 2 * m) (cond b 1 0 + 2 * n) ≡ bit_or m n * 2 + cond (a || b) 1 0 = or_step (cond a 1 0 + 2 * m) (cond b 1 0 + 2 * n) ∙ (cc) in
    step ∙ omega arith

-- a word that is a node's string is a suffix of s exactly if it is s, or a suffix of the back link
ends-back : (ss : List (List ℕ)) → Has ss [] → (s : List ℕ) → 0 < length s → (w : List ℕ) → Has ss w → ends_with s w ≡ (same w s || ends_with (back_string ss s) w)
ends-back ss root s some w has = same_from_decides _ _ (decides_ends_with s w) (Decides-like _ there back (Decides-or _ _ (decides_same w s) (decides_ends_with (back_string ss s) w)))
  where
    there : (w ≡ s) ⊎ EndsWith (back_string ss s) w → EndsWith s w
    there (inl is) = subst (EndsWith s) (sym is) (ends-itself s)
    there (inr ends) = ends-trans s (back_string ss s) w (back_is ss root s some).ends ends

    back : EndsWith s w → (w ≡ s) ⊎ EndsWith (back_string ss s) w
    back ends = ⊎_elim (λ short. inr ((back_is ss root s some).most w has ends short)) (λ long. inl (sym (ends-whole s w ends long))) (cases_lt (length w) (length s))

-- outputs are joined along back links, for words that are nodes' strings
pub suffix_mask-join : (ss : List (List ℕ)) → Has ss [] → (ws : List (List ℕ)) → AllByRecursion (Has ss) ws → (s : List ℕ) → 0 < length s → suffix_mask ws s ≡ bit_or (own_mask ws s) (suffix_mask ws (back_string ss s))
suffix_mask-join ss root [] each s some = refl
suffix_mask-join ss root (w ∷ ws) (this, rest) s some =
    let here = ends-back ss root s some w this in
    let more = suffix_mask-join ss root ws rest s some in
    let bits = or_bits (same w s) (ends_with (back_string ss s) w) (own_mask ws s) (suffix_mask ws (back_string ss s)) in
    cc

-- so along those of all words' nodes
pub suffix_mask-back : (ws : List (List ℕ)) (s : List ℕ) → 0 < length s → suffix_mask ws s ≡ bit_or (own_mask ws s) (suffix_mask ws (back_string (strings ws) s))
suffix_mask-back ws s some = suffix_mask-join (strings ws) (has_root ws) ws (All-weaker (Has ws) _ (has_word ws) ws (all_has_itself ws)) s some
