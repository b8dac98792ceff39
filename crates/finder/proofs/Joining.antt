-- Two rows of words joined: rest, one more byte and the mask of the joined row come from those of the two.
use Rattle.std.proofs.Common.{◌≡◌, ℕ, zero, suc, ◌+◌, ◌*◌, ◌%◌, ◌^◌, ◌<◌, ◌≤◌, List, [], ◌∷◌, ◌++◌, length, take, sym, refl, ap, ◌∙◌, lt_of_lt_of_le, mod-eq_of_lt, arith, pow_mono}
use lib.Bits.{bit_or, or_shifted_r}
use Rattle.std.proofs.lemmas.Nat.{or_mod, mod_low}
use Rattle.std.proofs.lemmas.List.{map-append, take-map}
use Rattle.finder.specs.Words.{most_words, advance, advance_all, at_rest, mask, Rested, Took}
use Rattle.finder.specs.Joined.{joined}
use Rattle.finder.proofs.Masks.{mask_below, mask_append, mask-take}

-- a joined row rests as its two rows do
pub joined-at_rest : (ws ws' : List (List ℕ)) → joined (at_rest ws) (at_rest ws') ≡ at_rest (joined ws ws')
joined-at_rest ws ws' = ap (take most_words) (sym (map-append (λ (w : List ℕ). 0 ∷ []) ws ws')) ∙ take-map (λ (w : List ℕ). 0 ∷ []) most_words (ws ++ ws')

-- the first n words take a byte as all do
advance-take : (n : ℕ) (ws : List (List ℕ)) (b : ℕ) (hss : List (List ℕ)) → take n (advance_all ws b hss) ≡ advance_all (take n ws) b (take n hss)
advance-take zero ws b hss = refl
advance-take (suc n) [] b hss = refl
advance-take (suc n) (w ∷ ws) b [] = refl
advance-take (suc n) (w ∷ ws) b (hs ∷ hss) = ap (λ rest. advance b w hs ∷ rest) (advance-take n ws b hss)

-- words in two rows take a byte as their rows do
advance-append : (ws hss ws' hss' : List (List ℕ)) (b : ℕ) → length hss ≡ length ws → advance_all ws b hss ++ advance_all ws' b hss' ≡ advance_all (ws ++ ws') b (hss ++ hss')
advance-append [] [] ws' hss' b one = refl
advance-append [] (hs ∷ hss) ws' hss' b one = absurd (omega arith)
advance-append (w ∷ ws) [] ws' hss' b one = absurd (omega arith)
advance-append (w ∷ ws) (hs ∷ hss) ws' hss' b one = ap (λ rest. advance b w hs ∷ rest) (advance-append ws hss ws' hss' b (omega arith))

-- a joined row takes a byte as its two rows do
pub joined-advance : (ws hss ws' hss' : List (List ℕ)) (b : ℕ) → length hss ≡ length ws → joined (advance_all ws b hss) (advance_all ws' b hss') ≡ advance_all (joined ws ws') b (joined hss hss')
joined-advance ws hss ws' hss' b one = ap (take most_words) (advance-append ws hss ws' hss' b one) ∙ advance-take most_words (ws ++ ws') b (hss ++ hss')

-- the mask of a joined row: the right mask behind the left one, as far as there are bits
pub joined-mask : (ws hss ws' hss' : List (List ℕ)) → length hss ≡ length ws → mask (joined ws ws') (joined hss hss') ≡ (mask ws' hss' * 2 ^ length ws + mask ws hss) % 2 ^ most_words
joined-mask ws hss ws' hss' one = mask-take most_words (ws ++ ws') (hss ++ hss') ∙ ap (λ (m : ℕ). m % 2 ^ most_words) (mask_append ws hss ws' hss' one)

-- a mask of few words has few bits
pub mask-few : (ws hss : List (List ℕ)) → length ws ≤ most_words → mask ws hss < 2 ^ most_words
mask-few ws hss few = lt_of_lt_of_le (mask_below ws hss) (pow_mono few)

-- by a shift and an or
pub joined-mask_or : (ws hss ws' hss' : List (List ℕ)) → length hss ≡ length ws → length ws ≤ most_words
    → bit_or (mask ws hss) ((mask ws' hss' * 2 ^ length ws) % 2 ^ most_words) ≡ mask (joined ws ws') (joined hss hss')
joined-mask_or ws hss ws' hss' one few =
    let left = mask ws hss in
    let moved : ℕ = mask ws' hss' * 2 ^ length ws in
    ap (λ x. bit_or x (moved % 2 ^ most_words)) (sym (mod-eq_of_lt (mask-few ws hss few))) ∙ sym (or_mod left moved most_words)
    ∙ ap (λ (x : ℕ). x % 2 ^ most_words) (or_shifted_r (mask ws' hss') (length ws) left (mask_below ws hss)) ∙ sym (joined-mask ws hss ws' hss' one)

-- a full left row leaves no bit to the right one
pub joined-mask_full : (ws hss ws' hss' : List (List ℕ)) → length hss ≡ length ws → length ws ≡ most_words → mask ws hss ≡ mask (joined ws ws') (joined hss hss')
joined-mask_full ws hss ws' hss' one full =
    let left = mask-few ws hss (omega arith) in
    let bits : (mask ws' hss' * 2 ^ length ws + mask ws hss) % 2 ^ most_words ≡ mask ws hss = rw full (mod_low (mask ws' hss') most_words (mask ws hss) left) in
    sym bits ∙ sym (joined-mask ws hss ws' hss' one)

-- two finders that rest, as one row
pub both-rested : {A B : Type 0} {words halves : A → List (List ℕ)} {words' halves' : B → List (List ℕ)} {s t : A} {s' t' : B}
    → Rested words halves s t → Rested words' halves' s' t'
    → (joined (words t) (words' t') ≡ joined (words s) (words' s')) × (joined (halves t) (halves' t') ≡ at_rest (joined (words s) (words' s')))
both-rested {words = words} {words' = words'} {s = s} {s' = s'} left right = let row = joined-at_rest (words s) (words' s') in (cc, cc)

-- two finders that take a byte, as one row
pub both-took : {A B : Type 0} {words halves : A → List (List ℕ)} {words' halves' : B → List (List ℕ)} {s t : A} {s' t' : B} {b r r' : ℕ} → length (halves s) ≡ length (words s)
    → Took words halves s b t r → Took words' halves' s' b t' r'
    → (joined (words t) (words' t') ≡ joined (words s) (words' s')) × (joined (halves t) (halves' t') ≡ advance_all (joined (words s) (words' s')) b (joined (halves s) (halves' s')))
both-took {words = words} {halves = halves} {words' = words'} {halves' = halves'} {s = s} {s' = s'} {b = b} one left right =
    let row = joined-advance (words s) (halves s) (words' s') (halves' s') b one in
    (cc, cc)
