-- The strings of the nodes: which they are, in which order they stand, and at which numbers.
use Rattle.std.proofs.Common.{◌≡◌, ℕ, zero, suc, ◌+◌, ◌<◌, ◌≤◌, true, false, cond, ◌⊎◌, List, [], ◌∷◌, ◌++◌, length, get_or, take, Decides, sym, refl, ap, ◌∙◌, subst, inl, inr, ⊎_elim, arith}
use Rattle.std.specs.List.{ContainsAt as Has, flat_map, AllByRecursion}
use Rattle.std.proofs.lemmas.List.{length-map, length-take, nil_from_length, get_or-map, take_at, take_all, take-take, same_from_push, get_or_append_left, get_or_push, length_push}
use Rattle.std.proofs.ByRecursion.{has_get_or, has_append_left, has_append_right, has_push, has_push_cases, all-has, all_has_itself, All-append, All-push, All-weaker, All-from_get_or}
use Rattle.std.proofs.lemmas.Bool.{cases_Bool, cases_lt, or_parts, cond_both, cond-true, cond-false, false_from_ne_true, false≢true}
use Rattle.std.proofs.lemmas.Bool.Decides.{Decides-by_or, not_from_Decides}
use Rattle.finder.specs.Words.{same, word}
use Rattle.finder.specs.Meaning.{ExactlyIf}
use Rattle.finder.proofs.HalfRead.{decides_same}
use Rattle.nodes.specs.Nodes.{among, prefixes, strings, add, add_all, string, number}
use Rattle.nodes.specs.Tables.{Rooted, Distinct, Closed, Table, Begins}

-- `among` decides whether a string is one of these
pub decides_among : (ss : List (List ℕ)) (s : List ℕ) → Decides (among ss s) (Has ss s)
decides_among ss s = Decides-by_or (λ t. same t s) (λ t. t ≡ s) (λ ts. among ts s) (λ t. decides_same t s) refl (λ _ _. refl) ss

-- a string is among these, or it is not
pub cases_has : (ss : List (List ℕ)) (s : List ℕ) → Has ss s ⊎ (Has ss s → ⊥)
cases_has ss s = ⊎_elim (λ e. inl ((decides_among ss s).0 e)) (λ e. inr (not_from_Decides _ (decides_among ss s) e)) (cases_Bool (among ss s))

-- so a string that is not among these fails the test
pub among_none : (ss : List (List ℕ)) (s : List ℕ) → (Has ss s → ⊥) → among ss s ≡ false
among_none ss s not = false_from_ne_true _ (λ e. not ((decides_among ss s).0 e))

-- a string is the same as itself
pub same-itself : (s : List ℕ) → same s s ≡ true
same-itself s = (decides_same s s).1 refl

-- a string that passes the test stands at its number
stands : (ss : List (List ℕ)) (s : List ℕ) → among ss s ≡ true → (number ss s < length ss) × (string ss (number ss s) ≡ s)
stands [] s is = absurd (false≢true is)
stands (t ∷ ts) s is =
    cond_both (same t s) 0 (suc (number ts s)) (λ n. (n < suc (length ts)) × (string (t ∷ ts) n ≡ s)) (λ e. (omega arith, (decides_same t s).0 e))
    (λ e. let rest = stands ts s (rw e at is) in (omega arith, rest.1))

-- a string that is among these has a number below their count
pub number-below : (ss : List (List ℕ)) (s : List ℕ) → Has ss s → number ss s < length ss
number-below ss s has = (stands ss s ((decides_among ss s).1 has)).0

-- and stands there
pub string-number : (ss : List (List ℕ)) (s : List ℕ) → Has ss s → string ss (number ss s) ≡ s
string-number ss s has = (stands ss s ((decides_among ss s).1 has)).1

-- each place below the count has a string that is among these
pub has_string : (ss : List (List ℕ)) (i : ℕ) → i < length ss → Has ss (string ss i)
has_string ss i within = has_get_or ss i [] within

-- with others behind, a string keeps its number
pub number-kept : (ss ts : List (List ℕ)) (s : List ℕ) → Has ss s → number (ss ++ ts) s ≡ number ss s
number-kept ss ts s has = kept ss ((decides_among ss s).1 has)
  where
    kept : (us : List (List ℕ)) → among us s ≡ true → number (us ++ ts) s ≡ number us s
    kept [] is = absurd (false≢true is)
    kept (u ∷ us) is = ⊎_elim (λ e. rw e) (λ e. ap (λ n. cond (same u s) 0 (suc n)) (kept us (rw e at is))) (cases_Bool (same u s))

-- and that of a string that has none yet is counted from where the others begin
pub number-new : (ss ts : List (List ℕ)) (s : List ℕ) → (Has ss s → ⊥) → number (ss ++ ts) s ≡ length ss + number ts s
number-new ss ts s not = new ss (among_none ss s not)
  where
    new : (us : List (List ℕ)) → among us s ≡ false → number (us ++ ts) s ≡ length us + number ts s
    new [] is = omega arith
    new (u ∷ us) is = let (here, rest) = or_parts (same u s) (among us s) is in cond-false _ _ _ here ∙ ap suc (new us rest) ∙ omega arith

-- one string more, that is not among these, keeps them distinct
pub distinct_push : (ss : List (List ℕ)) (s : List ℕ) → (Has ss s → ⊥) → Distinct ss → Distinct (ss ++ (s ∷ []))
distinct_push ss s not apart i within = ⊎_elim old new (cases_lt i (length ss))
  where
    old : i < length ss → number (ss ++ (s ∷ [])) (string (ss ++ (s ∷ [])) i) ≡ i
    old below = rw (get_or_append_left ss (s ∷ []) [] i below) (number-kept ss (s ∷ []) (string ss i) (has_string ss i below) ∙ apart i below)

    new : length ss ≤ i → number (ss ++ (s ∷ [])) (string (ss ++ (s ∷ [])) i) ≡ i
    new above =
        let at : length ss ≡ i = omega (arith, length_push ss s) in
        let first : number (s ∷ []) s ≡ 0 = cond-true _ _ _ (same-itself s) in
        rw (get_or_push ss s [] i at) (number-new ss (s ∷ []) s not ∙ omega arith)

-- and the root first
pub rooted_push : (ss : List (List ℕ)) (s : List ℕ) → Rooted ss → Rooted (ss ++ (s ∷ []))
rooted_push ss s root = record { some = omega (arith, length_push ss s); first = get_or_append_left ss (s ∷ []) [] 0 root.some ∙ root.first }

-- equal strings are at one number
pub string-one : (ss : List (List ℕ)) → Distinct ss → (m n : ℕ) → m < length ss → n < length ss → string ss m ≡ string ss n → m ≡ n
string-one ss apart m n this other is = sym (apart m this) ∙ ap (number ss) is ∙ apart n other

-- only the root's is empty
pub string-some : (ss : List (List ℕ)) → Rooted ss → Distinct ss → (n : ℕ) → 0 < n → n < length ss → 0 < length (string ss n)
string-some ss root apart n above within =
    ⊎_elim (λ some. some) (λ none. let is = string-one ss apart 0 n root.some within (root.first ∙ sym (nil_from_length (string ss n) (omega arith))) in absurd (omega arith)) (cases_lt 0 (length (string ss n)))

-- what one string more keeps, adding a string keeps
add-keeps : (P : List (List ℕ) → Type 0) → ((ss : List (List ℕ)) (s : List ℕ) → (Has ss s → ⊥) → P ss → P (ss ++ (s ∷ []))) → (ss : List (List ℕ)) (s : List ℕ) → P ss → P (add ss s)
add-keeps P more ss s h = cond_both (among ss s) ss (ss ++ (s ∷ [])) P (λ e. h) (λ e. more ss s (not_from_Decides _ (decides_among ss s) e) h)

-- and so does adding many
pub add_all-keeps : (P : List (List ℕ) → Type 0) → ((ss : List (List ℕ)) (s : List ℕ) → (Has ss s → ⊥) → P ss → P (ss ++ (s ∷ []))) → (ss ts : List (List ℕ)) → P ss → P (add_all ss ts)
add_all-keeps P more ss [] h = h
add_all-keeps P more ss (t ∷ ts) h = add_all-keeps P more (add ss t) ts (add-keeps P more ss t h)

-- a word has one prefix for each of its bytes
pub length-prefixes : (w : List ℕ) → length (prefixes w) ≡ length w
length-prefixes [] = refl
length-prefixes (b ∷ bs) = ap suc (length-map (prefixes bs) (λ s. b ∷ s) ∙ length-prefixes bs)

-- the prefix at place i is one byte longer than i
pub prefix_at : (w : List ℕ) (i : ℕ) → i < length w → get_or (prefixes w) i [] ≡ take (suc i) w
prefix_at [] i within = absurd (omega arith)
prefix_at (b ∷ bs) zero within = refl
prefix_at (b ∷ bs) (suc i) within =
    let long = length-prefixes bs in
    get_or-map (λ s. b ∷ s) (prefixes bs) i [] [] (omega arith) ∙ ap (λ s. b ∷ s) (prefix_at bs i (omega arith))

-- the first d bytes are among the prefixes
pub has_prefix : (w : List ℕ) (d : ℕ) → 1 ≤ d → d ≤ length w → Has (prefixes w) (take d w)
has_prefix w zero some within = absurd (omega arith)
has_prefix w (suc i) some within = let long = length-prefixes w in rw (← prefix_at w i within) (has_get_or (prefixes w) i [] (omega arith))

-- strings that are there stay
pub has_added : (ss ts : List (List ℕ)) (s : List ℕ) → Has ss s → Has (add_all ss ts) s
has_added ss ts s has = add_all-keeps (λ us. Has us s) (λ us u not h. has_append_left us (u ∷ []) s h) ss ts has

-- a string that is added is there
has_add : (ss : List (List ℕ)) (s : List ℕ) → Has (add ss s) s
has_add ss s = cond_both (among ss s) ss (ss ++ (s ∷ [])) (λ us. Has us s) (λ e. (decides_among ss s).0 e) (λ e. has_push ss s)

-- and so are all that are added
all-added : (ss ts : List (List ℕ)) → AllByRecursion (Has (add_all ss ts)) ts
all-added ss [] = tt
all-added ss (t ∷ ts) = (has_added (add ss t) ts t (has_add ss t), all-added (add ss t) ts)

-- what holds of those there and of those that are added holds of all
all-add_all : (P : List ℕ → Type 0) (ss ts : List (List ℕ)) → AllByRecursion P ss → AllByRecursion P ts → AllByRecursion P (add_all ss ts)
all-add_all P ss [] old new = old
all-add_all P ss (t ∷ ts) old (this, rest) =
    all-add_all P (add ss t) ts (cond_both (among ss t) ss (ss ++ (t ∷ [])) (AllByRecursion P) (λ e. old) (λ e. All-push P ss t old this)) rest

-- what holds of each list that is joined holds of all
all-joined : (P : List ℕ → Type 0) (f : List ℕ → List (List ℕ)) (ws : List (List ℕ)) → AllByRecursion (λ w. AllByRecursion P (f w)) ws → AllByRecursion P (flat_map f ws)
all-joined P f [] each = tt
all-joined P f (w ∷ ws) (this, rest) = All-append P (f w) (flat_map f ws) this (all-joined P f ws rest)

-- what one of the lists has, all joined have
has_joined : (f : List ℕ → List (List ℕ)) (ws : List (List ℕ)) (w s : List ℕ) → Has ws w → Has (f w) s → Has (flat_map f ws) s
has_joined f [] w s (k, within, at) has = absurd (omega arith)
has_joined f (v ∷ ws) w s (zero, within, at) has = has_append_left (f v) (flat_map f ws) s (subst (λ u. Has (f u) s) (sym (at [])) has)
has_joined f (v ∷ ws) w s (suc k, within, at) has = has_append_right (f v) (flat_map f ws) s (has_joined f ws w s (k, omega arith, at) has)

-- the root's string is the first
pub rooted_strings : (ws : List (List ℕ)) → Rooted (strings ws)
rooted_strings ws = add_all-keeps Rooted (λ ss s not h. rooted_push ss s h) ([] ∷ []) (flat_map prefixes ws) (record { some = omega arith; first = refl })

-- no string stands twice
pub distinct_strings : (ws : List (List ℕ)) → Distinct (strings ws)
distinct_strings ws = add_all-keeps Distinct distinct_push ([] ∷ []) (flat_map prefixes ws) one
  where
    one : Distinct ([] ∷ [])
    one zero within = refl
    one (suc i) within = absurd (omega arith)

-- the empty string is a node's
pub has_root : (ws : List (List ℕ)) → Has (strings ws) []
has_root ws = has_added ([] ∷ []) (flat_map prefixes ws) [] (has_push [] [])

-- so are the first bytes of each word
pub has_front : (ws : List (List ℕ)) (w : List ℕ) (d : ℕ) → Has ws w → d ≤ length w → Has (strings ws) (take d w)
has_front ws w zero has within = has_root ws
has_front ws w (suc d) has within = all-has (Has (strings ws)) _ _ (all-added ([] ∷ []) (flat_map prefixes ws)) (has_joined prefixes ws w _ has (has_prefix w (suc d) (omega arith) within))

-- and no other string is one
begins_string : (ws : List (List ℕ)) → AllByRecursion (λ s. (s ≡ []) ⊎ Begins ws s) (strings ws)
begins_string ws = all-add_all P ([] ∷ []) (flat_map prefixes ws) (inl refl, tt) (all-joined P prefixes ws (All-weaker (Has ws) _ each ws (all_has_itself ws)))
  where
    P : List ℕ → Type 0
    P s = (s ≡ []) ⊎ Begins ws s

    each : (w : List ℕ) → Has ws w → AllByRecursion P (prefixes w)
    each w has = let long = length-prefixes w in All-from_get_or P (prefixes w) [] (λ i within. inr (w, suc i, has, omega arith, omega arith, prefix_at w i (omega arith)))

-- so the strings are exactly the empty one and the first bytes of words
pub strings-are : (ws : List (List ℕ)) (s : List ℕ) → ExactlyIf (Has (strings ws) s) ((s ≡ []) ⊎ Begins ws s)
strings-are ws s = (all-has _ (strings ws) s (begins_string ws), back)
  where
    back : (s ≡ []) ⊎ Begins ws s → Has (strings ws) s
    back (inl is) = subst (Has (strings ws)) (sym is) (has_root ws)
    back (inr (w, d, has, some, within, is)) = subst (Has (strings ws)) (sym is) (has_front ws w d has within)

-- what comes before the last byte of first bytes is first bytes
pub front-push : (s : List ℕ) (b d : ℕ) (w : List ℕ) → s ++ (b ∷ []) ≡ take d w → (length s < d) × (s ≡ take (length s) w)
front-push s b d w is =
    let short : length s < d = omega (arith, length_push s b, ap length is, length-take d w) in
    (short, sym (take_at s (b ∷ []) (length s) refl) ∙ ap (take (length s)) is ∙ take-take (length s) d w (omega arith))

-- the strings are closed
pub closed_strings : (ws : List (List ℕ)) → Closed (strings ws)
closed_strings ws = record { root = has_root ws; shorter = λ s b has. shorter s b ((strings-are ws (s ++ (b ∷ []))).0 has) }
  where
    shorter : (s : List ℕ) (b : ℕ) → (s ++ (b ∷ []) ≡ []) ⊎ Begins ws (s ++ (b ∷ [])) → Has (strings ws) s
    shorter s b (inl is) = absurd (omega (arith, length_push s b, ap length is))
    shorter s b (inr (w, d, has, some, within, is)) =
        let (short, front) = front-push s b d w is in
        subst (Has (strings ws)) (sym front) (has_front ws w (length s) has (omega arith))

-- so they make a table
pub table_strings : (ws : List (List ℕ)) → Table (strings ws)
table_strings ws = record { rooted = rooted_strings ws; distinct = distinct_strings ws; closed = closed_strings ws }

-- one byte behind a string keeps a list of strings closed
pub closed_push : (ss : List (List ℕ)) (s : List ℕ) (b : ℕ) → Has ss s → Closed ss → Closed (ss ++ ((s ++ (b ∷ [])) ∷ []))
closed_push ss s b has closed = record { root = has_append_left ss _ [] closed.root; shorter = λ u c h. has_append_left ss _ u (⊎_elim (closed.shorter u c) (parent u c) (has_push_cases ss (s ++ (b ∷ [])) (u ++ (c ∷ [])) h)) }
  where
    parent : (u : List ℕ) (c : ℕ) → s ++ (b ∷ []) ≡ u ++ (c ∷ []) → Has ss u
    parent u c is = subst (Has ss) (same_from_push s u b c is).0 has

-- a new one keeps a table
pub table_push : (ss : List (List ℕ)) (s : List ℕ) (b : ℕ) → Has ss s → (Has ss (s ++ (b ∷ [])) → ⊥) → Table ss → Table (ss ++ ((s ++ (b ∷ [])) ∷ []))
table_push ss s b has not table = record { rooted = rooted_push ss _ table.rooted; distinct = distinct_push ss _ not table.distinct; closed = closed_push ss s b has table.closed }

-- what holds of each word by its number holds of each word
pub each_word : (P : List ℕ → Type 0) (ws : List (List ℕ)) → ((k : ℕ) → k < length ws → P (word ws k)) → (w : List ℕ) → Has ws w → P w
each_word P ws each w (k, within, at) = subst P (at []) (each k within)

-- each word is a node's string
pub has_word : (ws : List (List ℕ)) (w : List ℕ) → Has ws w → Has (strings ws) w
has_word ws w has = subst (Has (strings ws)) (take_all (length w) w (omega arith)) (has_front ws w (length w) has (omega arith))

-- no string is longer than all words
pub string-short : (ws : List (List ℕ)) (n : ℕ) → ((k : ℕ) → k < length ws → length (word ws k) ≤ n) → (s : List ℕ) → Has (strings ws) s → length s ≤ n
string-short ws n short s has = ⊎_elim (λ is. omega (arith, ap length is)) front ((strings-are ws s).0 has)
  where
    front : Begins ws s → length s ≤ n
    front (w, d, has, some, within, is) = omega (arith, ap length is, length-take d w, each_word (λ v. length v ≤ n) ws short w has)
