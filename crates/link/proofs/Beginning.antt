-- Words that begin with a string, and the strings of the words before a word.
use Rattle.std.proofs.Common.{◌≡◌, ℕ, zero, suc, ◌+◌, ◌<◌, ◌≤◌, Bool, true, false, Bor, List, [], ◌∷◌, ◌++◌, map, length, get_or, take, drop, is_some, Some, None, nat_eq, Decides, MatchOption, Option, sym, refl, ap, ◌∙◌, subst, ⊎_elim, add-one, arith}
use Rattle.std.specs.Cmp.Lexicographic.{pointwise}
use Rattle.std.specs.List.{AllWithin, ContainsAt as Has, HoldsAt}
use Rattle.std.specs.Option.{unwrap_or}
use Rattle.std.proofs.ByRecursion.{has_get_or}
use Rattle.std.proofs.lemmas.Slice.Eq.{starts_is}
use Rattle.std.proofs.lemmas.List.{length-append, length-map, length-take, length-take-le, get_or-take, take_at, take-append-drop}
use Rattle.finder.specs.Words.{word}
use Rattle.words.specs.Index.{indexed, slices}
use Rattle.words.specs.declared.words.Words.{Words}
use Rattle.nodes.specs.Nodes.{strings}
use Rattle.nodes.specs.Tables.{Begins}
use Rattle.nodes.proofs.Entering.{shared-only}
use Rattle.nodes.proofs.Strings.{closed_strings, has_front, has_root, strings-are}
use Rattle.link.specs.Shape.{BeginsWith, NoneBefore, FirstWith, shared_by}
use Rattle.std.proofs.lemmas.Bool.{false≢true, true≢false}
use Rattle.std.proofs.lemmas.Bool.Decides.{Decides-eqb, not_from_Decides}

-- what the test of a front tells
pub decides_begins : (w s : List ℕ) (r : Bool) → r ≡ pointwise nat_eq s (take (length s) w) → Decides r (BeginsWith w s)
decides_begins w s r test = let (there, back) = starts_is Decides-eqb w s r test in (λ is. (drop (length s) w, there is), λ begins. back begins.0 begins.1)

-- a word begins with its first bytes
pub begins_front : (w : List ℕ) (d : ℕ) → BeginsWith w (take d w)
begins_front w d = (drop d w, sym (take-append-drop d w))

-- a front is no longer than the word, and its first bytes
pub front-is : (w s : List ℕ) → BeginsWith w s → (length s ≤ length w) × (take (length s) w ≡ s)
front-is w s (rest, is) = (omega (arith, ap length is, length-append s rest), ap (take (length s)) is ∙ take_at s rest (length s) refl)

-- the fronts of words before word k are strings of those words
pub has_earlier : (ws : List (List ℕ)) (s : List ℕ) (k j : ℕ) → j < k → j < length ws → BeginsWith (word ws j) s → Has (strings (take k ws)) s
has_earlier ws s k j before inside begins =
    let (short, is) = front-is (word ws j) s begins in
    let has = has_get_or (take k ws) j [] (omega (arith, length-take k ws)) in
    subst (Has (strings (take k ws))) is (has_front (take k ws) (word ws j) (length s) (subst (Has (take k ws)) (get_or-take k ws j [] before) has) short)

-- and those of some bytes are fronts of such words
pub earlier_has : (ws : List (List ℕ)) (s : List ℕ) (k : ℕ) → 0 < length s → Has (strings (take k ws)) s → (j : ℕ) × (j < k) × (j < length ws) × BeginsWith (word ws j) s
earlier_has ws s k some has = ⊎_elim (λ none. absurd (omega (arith, ap length none))) found ((strings-are (take k ws) s).0 has)
  where
    found : Begins (take k ws) s → (j : ℕ) × (j < k) × (j < length ws) × BeginsWith (word ws j) s
    found (w, d, (j, within, at), least, most, is) =
        let before : j < k = omega (arith, length-take k ws) in
        let here : word ws j ≡ w = sym (get_or-take k ws j [] before) ∙ at [] in
        (j, before, omega (arith, length-take k ws), (drop d w, here ∙ sym (take-append-drop d w) ∙ ap (λ t. t ++ drop d w) (sym is)))

-- so where no word before word k begins with s, it is no string of those
pub none_earlier : (ws : List (List ℕ)) (s : List ℕ) (k : ℕ) → 0 < length s → NoneBefore ws s k → Has (strings (take k ws)) s → ⊥
none_earlier ws s k some none has = let (j, before, inside, begins) = earlier_has ws s k some has in none j before begins

-- word k shares its first d bytes, where these are a string of the words before it and one byte more is not
pub shared-is : (ws : List (List ℕ)) (k d : ℕ) → d ≤ length (word ws k) → Has (strings (take k ws)) (take d (word ws k)) → (d < length (word ws k) → NoneBefore ws (take (suc d) (word ws k)) k) → shared_by ws k ≡ d
shared-is ws k d within has ends =
    let w = word ws k in
    shared-only (strings (take k ws)) (closed_strings (take k ws)) w d within has
    (λ more. none_earlier ws (take (suc d) w) k (omega (arith, length-take-le (suc d) w more)) (ends more))

-- a word that was found before word k makes the string one of the words before it
pub found_some : (ws : List (List ℕ)) (s : List ℕ) (k : ℕ) (r : Option ℕ) → k ≤ length ws → is_some r ≡ true → FirstWith ws s k r → Has (strings (take k ws)) s
found_some ws s k (Some i) within is (before, begins, none) = has_earlier ws s k i before (omega arith) begins
found_some ws s k None within is none = absurd (false≢true is)

-- where none was found there is none
pub found_none : (ws : List (List ℕ)) (s : List ℕ) (k : ℕ) (r : Option ℕ) → is_some r ≡ false → FirstWith ws s k r → NoneBefore ws s k
found_none ws s k (Some i) is found = absurd (true≢false is)
found_none ws s k None is none = none

-- word j of some slices
pub word_at : (xs : List (Bor (List ℕ))) (j : ℕ) (d : Bor (List ℕ)) → j < length xs → word (map (λ x. x.now) xs) j ≡ (get_or xs j d).now
word_at [] j d within = absurd (omega arith)
word_at (x ∷ xs) zero d within = refl
word_at (x ∷ xs) (suc j) d within = word_at xs j d (omega arith)

-- the slices of an index are its words
pub items_all : (w : Words) (items : List (Bor (List ℕ))) → items ≡ slices w → length items ≡ length (indexed w)
items_all w items is = ap length is ∙ sym (length-map (slices w) (λ x. x.now))

pub item_word : (w : Words) (items : List (Bor (List ℕ))) → items ≡ slices w → (j : ℕ) (d : Bor (List ℕ)) → j < length items → (get_or items j d).now ≡ word (indexed w) j
item_word w items is j d within = ap (λ ys. (get_or ys j d).now) is ∙ sym (word_at (slices w) j d (omega (arith, ap length is)))

-- whether a slice begins with s
abbrev pub Starts : List ℕ → Bool → Bor (List ℕ) → Type 0
Starts s r x = pointwise nat_eq s (take (length s) x.now) ≡ r

module _ (xs : List (Bor (List ℕ))) (s : List ℕ) (k : ℕ) (within : k ≤ length (map (λ x. x.now) xs)) where
  abbrev ws : List (List ℕ)
  ws = map (λ x. x.now) xs

  fits : k ≤ length xs
  fits = omega (arith, length-map xs (λ x. x.now))

  here : (j : ℕ) → j < k → word ws j ≡ (get_or (take k xs) j (record { ref_ptr = (0, 0); now = [] })).now
  here j below = let few = fits in word_at xs j _ (omega arith) ∙ ap (λ (x : Bor (List ℕ)). x.now) (sym (get_or-take k xs j _ below))

  -- the slices up to a place that do not begin with s
  others : (n : ℕ) → n ≤ k → AllWithin (Starts s false) (take k xs) 0 n → NoneBefore ws s n
  others n low none j below begins =
      let e = here j (omega arith) in
      not_from_Decides _ (decides_begins _ s _ refl) (none j _ (omega arith) below) (subst (λ w. BeginsWith w s) e begins)

  -- what a search among the first slices answers
  pub first_from_cases : (r : Option ℕ) → MatchOption r (AllWithin (Starts s false) (take k xs) 0 (length (take k xs))) (λ i. (i < length (take k xs)) × HoldsAt (Starts s true) (take k xs) i × AllWithin (Starts s false) (take k xs) 0 i) → FirstWith ws s k r
  first_from_cases None none = others k (omega arith) (subst (AllWithin (Starts s false) (take k xs) 0) (length-take-le k xs fits) none)
  first_from_cases (Some i) (below, starts, none) =
      let low : i < k = omega (arith, length-take-le k xs fits) in
      (low, subst (λ w. BeginsWith w s) (sym (here i low)) ((decides_begins _ s _ refl).0 (starts _)), others i (omega arith) none)

-- how many first bytes of word k the tests of its fronts find: the first that no word before begins with ends them
module _ (ws : List (List ℕ)) (k : ℕ) (inside : k < length ws) where
  -- a search before word k found a front of so many bytes, or none
  abbrev pub Front : Bool → ℕ → Type 0
  Front found d = (o : Option ℕ) × FirstWith ws (take (d + 1) (word ws k)) k o × (is_some o ≡ found)

  shares_upto : (d : ℕ) → ((j : ℕ) → 0 ≤ j → j < d → Front true j) → Has (strings (take k ws)) (take d (word ws k))
  shares_upto zero found = has_root (take k ws)
  shares_upto (suc d) found =
      let (o, first, some) = found d (omega arith) (omega arith) in
      subst (λ n. Has (strings (take k ws)) (take n (word ws k))) (add-one d) (found_some ws _ k o (omega arith) some first)

  pub shared_from_cases : (r : Option ℕ) → MatchOption r ((d : ℕ) → 0 ≤ d → d < length (word ws k) → Front true d) (λ i. (0 ≤ i) × (i < length (word ws k)) × Front false i × ((d : ℕ) → 0 ≤ d → d < i → Front true d)) → unwrap_or r (length (word ws k)) ≡ shared_by ws k
  shared_from_cases None all = sym (shared-is ws k (length (word ws k)) (omega arith) (shares_upto (length (word ws k)) all) (λ more. absurd (omega arith)))
  shared_from_cases (Some i) (low, below, (o, first, none), all) = sym (shared-is ws k i (omega arith) (shares_upto i all) (λ more. subst (λ n. NoneBefore ws (take n (word ws k)) k) (add-one i) (found_none ws _ k o none first)))
