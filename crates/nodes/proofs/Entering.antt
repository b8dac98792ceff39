-- One word more: which of its prefixes are there already, and the numbers of those that are new.
use Rattle.std.proofs.Common.{◌≡◌, ℕ, zero, suc, ◌+◌, ◌-◌, ◌<◌, ◌≤◌, List, [], ◌∷◌, ◌++◌, length, get_or, take, drop, sum_by, sym, refl, ap, ◌∙◌, subst, ⊎_elim, arith, drop-cons, take-suc}
use lib.Seq.{append_snoc}
use Rattle.std.specs.List.{ContainsAt as Has, flat_map, AllByRecursion}
use Rattle.std.proofs.lemmas.List.{append-nil, take_more, append_assoc, length_push, length-append, length-take, length-take-le, length-drop, get_or-take, get_or-drop, get_or-append-add, get_or_append_left, take-append-drop, drop_all}
use Rattle.std.proofs.ByRecursion.{has_push, has_push_cases, All-from_get_or}
use Rattle.std.proofs.lemmas.List.Sums.{sum_by-cons}
use Rattle.std.proofs.lemmas.Bool.{cases_eq, cases_order, cond_both, cond-true, cond-false}
use Rattle.std.proofs.lemmas.Bool.Decides.{not_from_Decides}
use Rattle.finder.specs.Words.{word}
use Rattle.nodes.specs.Nodes.{among, prefixes, add, add_all, strings, string, shared_upto, shared}
use Rattle.nodes.specs.Tables.{Closed, Table}
use Rattle.nodes.proofs.Strings.{decides_among, among_none, add_all-keeps, length-prefixes, prefix_at, closed_strings, table_push}

-- a word that is entered up to its first n bytes: those are there, and no more of it
pub record Entered (ss : List (List ℕ)) (w : List ℕ) (n : ℕ) : Type 0 where
  pub table : Table ss
  pub there : Has ss (take n w)
  pub new : (d : ℕ) → n < d → d ≤ length w → Has ss (take d w) → ⊥

-- what the search for the longest prefix gives
record Shares (ss : List (List ℕ)) (w : List ℕ) (n r : ℕ) : Type 0 where
  small : r ≤ n
  there : Has ss [] → Has ss (take r w)
  most : (d : ℕ) → r < d → d ≤ n → Has ss (take d w) → ⊥

-- it gives that at any limit
shared_upto-is : (ss : List (List ℕ)) (w : List ℕ) (n : ℕ) → Shares ss w n (shared_upto ss w n)
shared_upto-is ss w zero = record { small = omega arith; there = λ root. root; most = λ d above below. absurd (omega arith) }
shared_upto-is ss w (suc n) =
    let test = decides_among ss (take (suc n) w) in
    let rest = shared_upto-is ss w n in
    cond_both (among ss (take (suc n) w)) (suc n) (shared_upto ss w n) (Shares ss w (suc n))
    (λ e. record { small = omega arith; there = λ root. test.0 e; most = λ d above below. absurd (omega arith) })
    (λ e. record { small = omega (arith, rest.small); there = rest.there; most = λ d above below has. ⊎_elim (λ at. not_from_Decides _ test e (subst (λ (m : ℕ). Has ss (take m w)) at has)) (λ apart. rest.most d above (omega arith) has) (cases_eq d (suc n)) })

-- no more than the word is shared
pub shared-small : (ss : List (List ℕ)) (w : List ℕ) → shared ss w ≤ length w
shared-small ss w = (shared_upto-is ss w (length w)).small

-- what is shared is there
pub shared-there : (ss : List (List ℕ)) (w : List ℕ) → Has ss [] → Has ss (take (shared ss w) w)
shared-there ss w = (shared_upto-is ss w (length w)).there

-- no longer prefix is
pub shared-most : (ss : List (List ℕ)) (w : List ℕ) (d : ℕ) → shared ss w < d → d ≤ length w → Has ss (take d w) → ⊥
shared-most ss w = (shared_upto-is ss w (length w)).most

-- with a prefix, closed strings have every shorter one
pub fronts_closed : (ss : List (List ℕ)) → Closed ss → (w : List ℕ) (n d : ℕ) → n ≤ length w → Has ss (take n w) → d ≤ n → Has ss (take d w)
fronts_closed ss closed w zero d within has below = let at : d ≡ 0 = omega arith in subst (λ (m : ℕ). Has ss (take m w)) (sym at) closed.root
fronts_closed ss closed w (suc n) d within has below =
    ⊎_elim (λ at. subst (λ (m : ℕ). Has ss (take m w)) (sym at) has) (λ apart. fronts_closed ss closed w n d (omega arith) (closed.shorter (take n w) (get_or w n 0) (subst (Has ss) (take-suc w n 0 within) has)) (omega arith)) (cases_eq d (suc n))

-- so all prefixes up to what is shared are there
pub shared-fronts : (ss : List (List ℕ)) → Closed ss → (w : List ℕ) (d : ℕ) → d ≤ shared ss w → Has ss (take d w)
shared-fronts ss closed w d = fronts_closed ss closed w (shared ss w) d (shared-small ss w) (shared-there ss w closed.root)

-- and where a prefix is there and the next is not, that is what is shared
pub shared-only : (ss : List (List ℕ)) → Closed ss → (w : List ℕ) (d : ℕ) → d ≤ length w → Has ss (take d w) → (d < length w → Has ss (take (suc d) w) → ⊥) → shared ss w ≡ d
shared-only ss closed w d within has ends =
    ⊎_elim (λ is. is) (⊎_elim (λ below. absurd (shared-most ss w d below within has)) (λ above. absurd (ends (omega (arith, shared-small ss w)) (shared-fronts ss closed w (suc d) above)))) (cases_order (shared ss w) d)

-- strings that are all there add nothing
add_all-there : (ss ts : List (List ℕ)) → AllByRecursion (Has ss) ts → add_all ss ts ≡ ss
add_all-there ss [] each = refl
add_all-there ss (t ∷ ts) (this, rest) = ap (λ us. add_all us ts) (cond-true _ _ _ ((decides_among ss t).1 this)) ∙ add_all-there ss ts rest

-- strings are added in two parts
add_all-append : (ss ts us : List (List ℕ)) → add_all ss (ts ++ us) ≡ add_all (add_all ss ts) us
add_all-append ss [] us = refl
add_all-append ss (t ∷ ts) us = add_all-append (add ss t) ts us

-- the prefixes behind the first k begin with the one that is a byte longer
pub prefixes-rest : (w : List ℕ) (k : ℕ) → k < length w → drop k (prefixes w) ≡ take (suc k) w ∷ drop (suc k) (prefixes w)
prefixes-rest w k within =
    let long = length-prefixes w in
    drop-cons (prefixes w) k [] (omega arith) ∙ ap (λ s. s ∷ drop (suc k) (prefixes w)) (prefix_at w k within)

-- a prefix more leaves the longer ones new
new_push : (ss : List (List ℕ)) (w : List ℕ) (n : ℕ) → n < length w → ((d : ℕ) → n < d → d ≤ length w → Has ss (take d w) → ⊥) → (d : ℕ) → suc n < d → d ≤ length w → Has (ss ++ (take (suc n) w ∷ [])) (take d w) → ⊥
new_push ss w n inside new d above below has =
    let apart : take (suc n) w ≡ take d w → ⊥ = λ is. omega (arith, ap length is, length-take-le (suc n) w inside, length-take-le d w below) in
    ⊎_elim (new d (omega arith) below) apart (has_push_cases ss (take (suc n) w) (take d w) has)

-- where the n prefixes behind the first k are not there, they are added as they stand
add-rest : (w : List ℕ) (n k : ℕ) (ss : List (List ℕ)) → k + n ≡ length w → ((d : ℕ) → k < d → d ≤ length w → Has ss (take d w) → ⊥) → add_all ss (drop k (prefixes w)) ≡ ss ++ drop k (prefixes w)
add-rest w zero k ss at new = let none = drop_all k (prefixes w) (omega (arith, length-prefixes w)) in rw none (sym (append-nil ss))
add-rest w (suc n) k ss at new =
    let t = take (suc k) w in
    let rest = drop (suc k) (prefixes w) in
    let added : add ss t ≡ ss ++ (t ∷ []) = cond-false _ _ _ (among_none ss t (new (suc k) (omega arith) (omega arith))) in
    let more = add-rest w n (suc k) (ss ++ (t ∷ [])) (omega arith) (new_push ss w k (omega arith) new) in
    rw (prefixes-rest w k (omega arith)) (ap (λ us. add_all us rest) added ∙ more ∙ append_snoc ss t rest)

-- the prefixes up to what is shared are there
all-shared : (ss : List (List ℕ)) → Closed ss → (w : List ℕ) → AllByRecursion (Has ss) (take (shared ss w) (prefixes w))
all-shared ss closed w = All-from_get_or (Has ss) (take k (prefixes w)) [] each
  where
    k : ℕ
    k = shared ss w

    each : (i : ℕ) → i < length (take k (prefixes w)) → Has ss (get_or (take k (prefixes w)) i [])
    each i within =
        let below : i < k = omega (arith, length-take k (prefixes w)) in
        subst (Has ss) (sym (get_or-take k (prefixes w) i [] below ∙ prefix_at w i (omega (arith, shared-small ss w)))) (shared-fronts ss closed w (suc i) below)

-- entering a word into closed strings: the prefixes that it does not share stand behind
pub add-word : (ss : List (List ℕ)) → Closed ss → (w : List ℕ) → add_all ss (prefixes w) ≡ ss ++ drop (shared ss w) (prefixes w)
add-word ss closed w =
    let k = shared ss w in
    let behind = drop k (prefixes w) in
    ap (add_all ss) (sym (take-append-drop k (prefixes w))) ∙ add_all-append ss (take k (prefixes w)) behind ∙ ap (λ us. add_all us behind) (add_all-there ss _ (all-shared ss closed w))
    ∙ add-rest w (length w - k) k ss (omega (arith, shared-small ss w)) (shared-most ss w)

-- the prefixes of more words, in two parts
joined-append : (us vs : List (List ℕ)) → flat_map prefixes (us ++ vs) ≡ flat_map prefixes us ++ flat_map prefixes vs
joined-append [] vs = refl
joined-append (u ∷ us) vs = ap (λ ts. prefixes u ++ ts) (joined-append us vs) ∙ sym (append_assoc (prefixes u) (flat_map prefixes us) (flat_map prefixes vs))

-- the strings of more words are those of the first with the others entered
strings-append : (us vs : List (List ℕ)) → strings (us ++ vs) ≡ add_all (strings us) (flat_map prefixes vs)
strings-append us vs = ap (add_all ([] ∷ [])) (joined-append us vs) ∙ add_all-append ([] ∷ []) (flat_map prefixes us) (flat_map prefixes vs)

-- so one word more adds the prefixes that it does not share
pub strings-push : (ws : List (List ℕ)) (w : List ℕ) → strings (ws ++ (w ∷ [])) ≡ strings ws ++ drop (shared (strings ws) w) (prefixes w)
strings-push ws w = strings-append ws (w ∷ []) ∙ ap (add_all (strings ws)) (append-nil (prefixes w)) ∙ add-word (strings ws) (closed_strings ws) w

-- and so many nodes
pub length-strings_push : (ws : List (List ℕ)) (w : List ℕ) → length (strings (ws ++ (w ∷ []))) ≡ length (strings ws) + (length w - shared (strings ws) w)
length-strings_push ws w = let k = shared (strings ws) w in rw (strings-push ws w, length-append, length-drop k (prefixes w), length-prefixes w)

-- no more strings than are added
length-add_all : (ss ts : List (List ℕ)) → length (add_all ss ts) ≤ length ss + length ts
length-add_all ss [] = omega arith
length-add_all ss (t ∷ ts) =
    let one : length (add ss t) ≤ length ss + 1 = cond_both (among ss t) ss (ss ++ (t ∷ [])) (λ us. length us ≤ length ss + 1) (λ e. omega arith) (λ e. omega (arith, length_push ss t)) in
    omega (arith, length-add_all (add ss t) ts)

-- one prefix for each byte of the words
length-joined : (ws : List (List ℕ)) → length (flat_map prefixes ws) ≡ sum_by length ws
length-joined [] = refl
length-joined (w ∷ ws) = omega (arith, length-append (prefixes w) (flat_map prefixes ws), length-prefixes w, length-joined ws, sum_by-cons length w ws)

-- so no more nodes than the root and one for each byte of the words
pub length-strings : (ws : List (List ℕ)) → length (strings ws) ≤ 1 + sum_by length ws
length-strings ws = omega (arith, length-add_all ([] ∷ []) (flat_map prefixes ws), length-joined ws)

-- more words leave each string at its number
pub string-kept : (us vs : List (List ℕ)) (j : ℕ) → j < length (strings us) → string (strings (us ++ vs)) j ≡ string (strings us) j
string-kept us vs j within = rw (strings-append us vs) (add_all-keeps (λ ss. (j < length ss) × (string ss j ≡ string (strings us) j)) kept (strings us) (flat_map prefixes vs) (within, refl)).1
  where
    kept : (ss : List (List ℕ)) (s : List ℕ) → (Has ss s → ⊥) → (j < length ss) × (string ss j ≡ string (strings us) j) → (j < length (ss ++ (s ∷ []))) × (string (ss ++ (s ∷ [])) j ≡ string (strings us) j)
    kept ss s not (below, is) = (omega (arith, length_push ss s), get_or_append_left ss (s ∷ []) [] j below ∙ is)

-- the prefixes of a word that it does not share stand behind the strings of the words before it
string-pushed : (us : List (List ℕ)) (w : List ℕ) (d : ℕ) → shared (strings us) w < d → d ≤ length w → string (strings (us ++ (w ∷ []))) (length (strings us) + (d - shared (strings us) w - 1)) ≡ take d w
string-pushed us w d above within =
    let k = shared (strings us) w in
    let at : suc (k + (d - k - 1)) ≡ d = omega arith in
    rw (strings-push us w) (get_or-append-add (strings us) (drop k (prefixes w)) (d - k - 1) [] ∙ get_or-drop k (prefixes w) (d - k - 1) [] ∙ prefix_at w (k + (d - k - 1)) (omega arith) ∙ ap (λ n. take n w) at)

-- so they do in the strings of all words
pub string-entered : (ws : List (List ℕ)) (i d : ℕ) → i < length ws → shared (strings (take i ws)) (word ws i) < d → d ≤ length (word ws i)
    → string (strings ws) (length (strings (take i ws)) + (d - shared (strings (take i ws)) (word ws i) - 1)) ≡ take d (word ws i)
string-entered ws i d inside above within =
    let us = take i ws in
    let w = word ws i in
    let j = length (strings us) + (d - shared (strings us) w - 1) in
    let parts : ws ≡ (us ++ (w ∷ [])) ++ drop (suc i) ws = sym (take-append-drop (suc i) ws) ∙ ap (λ vs. vs ++ drop (suc i) ws) (take-suc ws i [] inside) in
    let below : j < length (strings (us ++ (w ∷ []))) = omega (arith, length-strings_push us w) in
    ap (λ vs. string (strings vs) j) parts ∙ string-kept (us ++ (w ∷ [])) (drop (suc i) ws) j below ∙ string-pushed us w d above within

-- entering a word begins behind what it shares
pub entered_start : (ss : List (List ℕ)) (w : List ℕ) → Table ss → Entered ss w (shared ss w)
entered_start ss w table = record { table = table; there = shared-there ss w table.closed.root; new = shared-most ss w }

-- and goes on prefix by prefix
pub entered_more : (ss : List (List ℕ)) (w : List ℕ) (n : ℕ) → n < length w → Entered ss w n → Entered (ss ++ (take (suc n) w ∷ [])) w (suc n)
entered_more ss w n inside before =
    let last = take-suc w n 0 inside in
    let new = subst (λ s. Has ss s → ⊥) last (before.new (suc n) (omega arith) inside) in
    record { table = rw last (table_push ss (take n w) (get_or w n 0) before.there new before.table); there = has_push ss (take (suc n) w); new = new_push ss w n inside before.new }

-- the first m + 1 of the prefixes behind the first k
pub prefixes-more : (w : List ℕ) (k m : ℕ) → k + m < length w → take (m + 1) (drop k (prefixes w)) ≡ take m (drop k (prefixes w)) ++ (take (suc (k + m)) w ∷ [])
prefixes-more w k m inside =
    let long : m < length (drop k (prefixes w)) = omega (arith, length-drop k (prefixes w), length-prefixes w) in
    take_more (drop k (prefixes w)) m [] long ∙ ap (λ s. take m (drop k (prefixes w)) ++ (s ∷ [])) (get_or-drop k (prefixes w) m [] ∙ prefix_at w (k + m) inside)
