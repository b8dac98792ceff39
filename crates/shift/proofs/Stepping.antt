-- One more byte: a shifted register holds what the byte makes of the half-read lengths.
use Rattle.std.proofs.Common.{◌≡◌, ℕ, zero, suc, ◌+◌, ◌*◌, ◌%◌, ◌^◌, ◌<◌, ◌≤◌, true, false, ◌&&◌, ◌||◌, eqb, ltb, List, [], ◌∷◌, ◌++◌, length, get_or, sym, refl, ap, ◌∙◌, subst, arith}
use lib.Bits.{bit_and, bit_or}
use Rattle.std.proofs.lemmas.Nat.{pow_below}
use Rattle.std.proofs.lemmas.List.{length-append, get_or_append_left, get_or-append-add}
use Rattle.std.proofs.Math.Bool.{or-false}
use Rattle.std.proofs.lemmas.Bool.{lt-ltb, or_right}
use Rattle.std.proofs.lemmas.Bool.Decides.{nat_tests}
use Rattle.finder.specs.Words.{advance_all}
use Rattle.finder.proofs.HalfRead.{advance-passing}
use Rattle.landmark.specs.Grammar.{sizes}
use Rattle.shift.specs.Register.{bit, is_half, halves_from, firsts_of}
use Rattle.shift.specs.Table.{all_bytes, number_of}
use Rattle.shift.proofs.Bits.{bit-and, bit-or, bit_cut, bit-low, bit_high, bit-other, bit_shifted}
use Rattle.shift.proofs.Ending.{SomeBytes}
use Rattle.shift.proofs.Numbers.{number_bit}

-- the bits of a number at a word
number-left : (w bs : List ℕ) (c h : ℕ) → h < length w → bit (number_of (w ++ bs) c) h ≡ eqb (get_or w h 0) c
number-left w bs c h within =
    let size = length-append w bs in
    number_bit (w ++ bs) c h ∙ ap (λ t. t && eqb (get_or (w ++ bs) h 0) c) (lt-ltb h (length (w ++ bs)) (omega arith)) ∙ ap (λ (b : ℕ). eqb b c) (get_or_append_left w bs 0 h within)

-- and at the words behind it
number-right : (w bs : List ℕ) (c p : ℕ) → bit (number_of (w ++ bs) c) (length w + p) ≡ bit (number_of bs c) p
number-right w bs c p =
    let size = length-append w bs in
    let same : ltb (length w + p) (length (w ++ bs)) ≡ ltb p (length bs) = grind (arith, nat_tests) in
    number_bit (w ++ bs) c (length w + p) ∙ ap (λ t. t && eqb (get_or (w ++ bs) (length w + p) 0) c) same ∙ ap (λ (b : ℕ). ltb p (length bs) && eqb b c) (get_or-append-add w bs p 0) ∙ sym (number_bit bs c p)

-- the first bit of a word
first_bit : (w : List ℕ) (ws : List (List ℕ)) → 0 < length w → bit (firsts_of (w ∷ ws)) 0 ≡ true
first_bit w ws some = bit-low 1 (length w) (firsts_of ws) 0 some

-- no other bit of a word is its first
no_first_bit : (w : List ℕ) (ws : List (List ℕ)) (h : ℕ) → suc h < length w → bit (firsts_of (w ∷ ws)) (suc h) ≡ false
no_first_bit w ws h within = bit-low 1 (length w) (firsts_of ws) (suc h) within ∙ bit-other 0 (suc h) (λ e. omega arith)

-- and the first bits of the words behind it
later_first_bit : (w : List ℕ) (ws : List (List ℕ)) (p : ℕ) → 0 < length w → bit (firsts_of (w ∷ ws)) (length w + p) ≡ bit (firsts_of ws) p
later_first_bit w ws p some = bit_high 1 (length w) (firsts_of ws) p (pow_below 0 (length w) some)

-- bit p of the shifted register, of words that begin at run byte `start`
abbrev pub Shifts : ℕ → List (List ℕ) → ℕ → ℕ → ℕ → ℕ → Type 0
Shifts start ws b r r' p = bit r' (start + p) ≡ ((bit (r * 2) (start + p) || bit (firsts_of ws) p) && bit (number_of (all_bytes ws) b) p)

-- it says that one more byte of the first word is half-read
goes_on : (start : ℕ) (w : List ℕ) (ws : List (List ℕ)) (b r r' h : ℕ) → h < length w → Shifts start (w ∷ ws) b r r' h → is_half r' start (suc h) ≡ (is_half r start h && eqb (get_or w h 0) b)
goes_on start w ws b r r' zero within is =
    is ∙ ap (λ t. (bit (r * 2) (start + 0) || t) && bit (number_of (all_bytes (w ∷ ws)) b) 0) (first_bit w ws within)
    ∙ ap (λ t. t && bit (number_of (all_bytes (w ∷ ws)) b) 0) (or_right (bit (r * 2) (start + 0)) true refl) ∙ number-left w (all_bytes ws) b 0 within
goes_on start w ws b r r' (suc h) within is =
    let at : start + suc h ≡ suc (start + h) = omega arith in
    let before = ap (bit (r * 2)) at ∙ bit_shifted r (start + h) in
    is ∙ ap (λ t. (bit (r * 2) (start + suc h) || t) && bit (number_of (all_bytes (w ∷ ws)) b) (suc h)) (no_first_bit w ws h within)
    ∙ ap (λ t. t && bit (number_of (all_bytes (w ∷ ws)) b) (suc h)) (or-false (bit (r * 2) (start + suc h)) ∙ before) ∙ ap (λ t. bit r (start + h) && t) (number-left w (all_bytes ws) b (suc h) within)

-- and of the words behind it the same
later : (start : ℕ) (w : List ℕ) (ws : List (List ℕ)) (b r r' p : ℕ) → 0 < length w → Shifts start (w ∷ ws) b r r' (length w + p) → Shifts (start + length w) ws b r r' p
later start w ws b r r' p some is =
    let at : start + (length w + p) ≡ start + length w + p = omega arith in
    subst (λ (q : ℕ). bit r' q ≡ ((bit (r * 2) q || bit (firsts_of ws) p) && bit (number_of (all_bytes ws) b) p)) at
    (is ∙ ap (λ t. (bit (r * 2) (start + (length w + p)) || t) && bit (number_of (all_bytes (w ∷ ws)) b) (length w + p)) (later_first_bit w ws p some)
    ∙ ap (λ t. (bit (r * 2) (start + (length w + p)) || bit (firsts_of ws) p) && t) (number-right w (all_bytes ws) b p))

-- so a shifted register holds the advanced half-read lengths
halves_advance : (start : ℕ) (ws : List (List ℕ)) (b r r' : ℕ) → SomeBytes ws → ((p : ℕ) → p < sizes ws → Shifts start ws b r r' p) → halves_from start ws r' ≡ advance_all ws b (halves_from start ws r)
halves_advance start [] b r r' some each = refl
halves_advance start (w ∷ ws) b r r' some each =
    let first = some 0 (omega arith) in
    let this = advance-passing b w (is_half r start) (is_half r' start) refl (λ h within. goes_on start w ws b r r' h within (each h (omega arith))) in
    let rest = halves_advance (start + length w) ws b r r' (λ k within. some (suc k) (omega arith)) (λ p within. later start w ws b r r' p first (each (length w + p) (omega arith))) in
    cc

-- the register as the code shifts it
pub halves_taken : (ws : List (List ℕ)) (b r firsts number : ℕ) → SomeBytes ws → sizes ws ≤ 64 → firsts ≡ firsts_of ws → number ≡ number_of (all_bytes ws) b
    → halves_from 0 ws (bit_and (bit_or (r * 2 % 2 ^ 64) firsts) number) ≡ advance_all ws b (halves_from 0 ws r)
halves_taken ws b r firsts number some narrow begins is = halves_advance 0 ws b r (bit_and (bit_or (r * 2 % 2 ^ 64) firsts) number) some each
  where
    each : (p : ℕ) → p < sizes ws → Shifts 0 ws b r (bit_and (bit_or (r * 2 % 2 ^ 64) firsts) number) p
    each p within =
        let m : ℕ = r * 2 % 2 ^ 64 in
        let cut = bit_cut (r * 2) 64 p (omega arith) in
        subst (λ (q : ℕ). bit (bit_and (bit_or m firsts) number) q ≡ ((bit (r * 2) q || bit (firsts_of ws) p) && bit (number_of (all_bytes ws) b) p)) (omega arith)
        (bit-and (bit_or m firsts) number p ∙ ap (λ t. t && bit number p) (bit-or m firsts p) ∙ ap (λ t. (t || bit firsts p) && bit number p) cut
        ∙ ap (λ (n : ℕ). (bit (r * 2) p || bit n p) && bit number p) begins ∙ ap (λ (n : ℕ). (bit (r * 2) p || bit (firsts_of ws) p) && bit n p) is)
