-- The words of two finders in one row, as far as a mask has bits for them, and the facts that every finder has.
use Rattle.std.specs.Prelude.{◌≡◌, ℕ, ◌+◌, ◌-◌, ◌<◌, ◌≤◌, min, true, List, [], ◌++◌, length, take, slice_index_or, refl}
use Rattle.std.proofs.Common.{sym, ap, subst, ◌∙◌, ⊎_elim, arith}
use Rattle.std.proofs.lemmas.List.{length-take, length-append, get_or-take, get_or_append_left, get_or-append_right, get_or_past}
use Rattle.std.proofs.lemmas.Bool.{cases_lt}
use Rattle.finder.specs.Words.{most_words, word, WellSized, holds}

-- the left row, then the right row, up to the limit: of words, and of half lists
abbrev pub joined : List (List ℕ) → List (List ℕ) → List (List ℕ)
joined left right = take most_words (left ++ right)

-- how long a joined row is
pub length-joined : (left right : List (List ℕ)) → length (joined left right) ≡ min most_words (length left + length right)
length-joined left right = length-take most_words (left ++ right) ∙ ap (min most_words) (length-append left right)

-- a joined row is within the limit
pub joined-few : (left right : List (List ℕ)) → length (joined left right) ≤ most_words
joined-few left right = omega (arith, length-joined left right)

-- an element of the left row stands where it stood
pub joined-left : (left right : List (List ℕ)) (k : ℕ) → k < most_words → k < length left → word (joined left right) k ≡ word left k
joined-left left right k few within = get_or-take most_words (left ++ right) k [] few ∙ get_or_append_left left right [] k within

-- an element of the right row stands behind the left row
pub joined-right : (left right : List (List ℕ)) (k : ℕ) → k < most_words → length left ≤ k → word (joined left right) k ≡ word right (k - length left)
joined-right left right k few past = get_or-take most_words (left ++ right) k [] few ∙ get_or-append_right left right (length left) k [] refl past

-- past the limit there is no element
pub joined-past : (left right : List (List ℕ)) (k : ℕ) → most_words ≤ k → word (joined left right) k ≡ []
joined-past left right k past = get_or_past (joined left right) k [] (omega (arith, length-joined left right))

-- what holds of each element of both rows holds of each element of the joined row
pub joined-each : (P : List ℕ → Type 0) (left right : List (List ℕ)) → ((k : ℕ) → k < length left → P (word left k)) → ((k : ℕ) → k < length right → P (word right k)) → (k : ℕ) → k < length (joined left right) → P (word (joined left right) k)
joined-each P left right of_left of_right k within =
    let few : k < most_words = omega (arith, length-joined left right) in
    ⊎_elim (λ l. subst P (sym (joined-left left right k few l)) (of_left k l))
    (λ l. subst P (sym (joined-right left right k few l)) (of_right (k - length left) (omega (arith, length-joined left right))))
    (cases_lt k (length left))

-- joined words have a word's size
pub joined-sized : (left right : List (List ℕ)) → ((k : ℕ) → k < length left → WellSized (word left k)) → ((k : ℕ) → k < length right → WellSized (word right k)) → (k : ℕ) → k < length (joined left right) → WellSized (word (joined left right) k)
joined-sized = joined-each WellSized

-- joined half lists are as many as the joined words
pub joined-paired : (words halves words' halves' : List (List ℕ)) → length halves ≡ length words → length halves' ≡ length words' → length (joined halves halves') ≡ length (joined words words')
joined-paired words halves words' halves' one other =
    length-joined halves halves' ∙ (omega arith) ∙ sym (length-joined words words')

-- joined half lists begin with 0
pub joined-begun : (words halves words' halves' : List (List ℕ)) → length halves ≡ length words → length halves' ≡ length words'
    → ((k : ℕ) → k < length words → holds 0 (slice_index_or halves k []) ≡ true) → ((k : ℕ) → k < length words' → holds 0 (slice_index_or halves' k []) ≡ true)
    → (k : ℕ) → k < length (joined words words') → holds 0 (slice_index_or (joined halves halves') k []) ≡ true
joined-begun words halves words' halves' one other of_left of_right k within =
    joined-each (λ hs. holds 0 hs ≡ true) halves halves' (λ j l. of_left j (omega arith)) (λ j l. of_right j (omega arith)) k
    (omega (arith, joined-paired words halves words' halves' one other))
