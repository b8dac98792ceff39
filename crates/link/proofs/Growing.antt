-- The strings of words, as the last word grows by a symbol.
use Rattle.std.proofs.Common.{◌≡◌, ℕ, ◌+◌, ◌*◌, ◌<◌, ◌≤◌, List, [], ◌∷◌, ◌++◌, map, length, take, sum_by, sym, refl, ap, ◌∙◌, arith}
use Rattle.std.specs.List.{ContainsAt as Has}
use Rattle.std.proofs.ByRecursion.{All-from_get_or, sum_by_le}
use Rattle.std.proofs.lemmas.List.{length-take-le, map_push}
use Rattle.std.proofs.lemmas.List.Sums.{sum_by_more, sum_by_push, sum_by-take-le}
use Rattle.std.proofs.lemmas.Bool.{cond-false, cond-true}
use Rattle.finder.specs.Words.{WellSized, longest_word, most_words, word}
use Rattle.nodes.specs.Nodes.{prefixes, add, add_all, strings}
use Rattle.nodes.proofs.Entering.{add-word, length-strings, strings-push}
use Rattle.nodes.proofs.Strings.{among_none, closed_strings, decides_among}

-- a symbol more adds one prefix, the whole word
prefixes-push : (v : List ℕ) (b : ℕ) → prefixes (v ++ (b ∷ [])) ≡ prefixes v ++ ((v ++ (b ∷ [])) ∷ [])
prefixes-push [] b = refl
prefixes-push (c ∷ v) b = ap (λ ss. (c ∷ []) ∷ map (λ s. c ∷ s) ss) (prefixes-push v b) ∙ ap (λ ss. (c ∷ []) ∷ ss) (map_push (λ s. c ∷ s) (prefixes v) (v ++ (b ∷ [])))

-- the last string is added last
add_all-push : (ss ts : List (List ℕ)) (t : List ℕ) → add_all ss (ts ++ (t ∷ [])) ≡ add (add_all ss ts) t
add_all-push ss [] t = refl
add_all-push ss (u ∷ ts) t = add_all-push (add ss u) ts t

-- a word more adds its prefixes
strings-word : (us : List (List ℕ)) (v : List ℕ) → strings (us ++ (v ∷ [])) ≡ add_all (strings us) (prefixes v)
strings-word us v = strings-push us v ∙ sym (add-word (strings us) (closed_strings us) v)

-- so a symbol more adds one string
strings-grow : (us : List (List ℕ)) (v : List ℕ) (b : ℕ) → strings (us ++ ((v ++ (b ∷ [])) ∷ [])) ≡ add (strings (us ++ (v ∷ []))) (v ++ (b ∷ []))
strings-grow us v b =
    strings-word us (v ++ (b ∷ [])) ∙ ap (add_all (strings us)) (prefixes-push v b) ∙ add_all-push (strings us) (prefixes v) (v ++ (b ∷ [])) ∙ ap (λ ss. add ss (v ++ (b ∷ []))) (sym (strings-word us v))

-- none where it is there
pub strings-there : (us : List (List ℕ)) (v : List ℕ) (b : ℕ) → Has (strings (us ++ (v ∷ []))) (v ++ (b ∷ [])) → strings (us ++ ((v ++ (b ∷ [])) ∷ [])) ≡ strings (us ++ (v ∷ []))
strings-there us v b has = strings-grow us v b ∙ cond-true _ _ _ ((decides_among _ _).1 has)

-- and else behind the others
pub strings-new : (us : List (List ℕ)) (v : List ℕ) (b : ℕ) → (Has (strings (us ++ (v ∷ []))) (v ++ (b ∷ [])) → ⊥) → strings (us ++ ((v ++ (b ∷ [])) ∷ [])) ≡ strings (us ++ (v ∷ [])) ++ ((v ++ (b ∷ [])) ∷ [])
strings-new us v b new = strings-grow us v b ∙ cond-false _ _ _ (among_none _ _ new)

-- no symbols add nothing
pub strings-nothing : (us : List (List ℕ)) → strings (us ++ ([] ∷ [])) ≡ strings us
strings-nothing us = strings-word us []

-- there are few symbols in all
pub few_symbols : (ws : List (List ℕ)) → length ws ≤ most_words → ((k : ℕ) → k < length ws → WellSized (word ws k)) → sum_by length ws ≤ most_words * longest_word
few_symbols ws few sized =
    let all = sum_by_le length longest_word ws (All-from_get_or (λ w. length w ≤ longest_word) ws [] (λ k within. (sized k within).1)) in
    omega arith

-- before a symbol of a word there are no more strings than symbols in all
pub few_strings : (ws : List (List ℕ)) (k i : ℕ) → k < length ws → i < length (word ws k) → length (strings (take k ws ++ (take i (word ws k) ∷ []))) ≤ sum_by length ws
few_strings ws k i within inside =
    let v = take i (word ws k) in
    omega (arith, length-strings (take k ws ++ (v ∷ [])), sum_by_push length (take k ws) v, length-take-le i (word ws k) (omega arith), sum_by_more length ws k [] within, sum_by-take-le length ws (k + 1))
