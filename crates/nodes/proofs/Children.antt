-- Children of a node: the first, and the next with the same parent.
use Rattle.std.proofs.Common.{◌≡◌, ℕ, zero, suc, ◌+◌, ◌-◌, ◌<◌, ◌≤◌, Bool, true, false, cond, ◌⊎◌, List, [], ◌∷◌, ◌++◌, length, drop, Decides, sym, refl, ap, ◌∙◌, subst, inl, inr, ⊎_elim, arith}
use Rattle.std.specs.List.{ContainsAt as Has}
use Rattle.std.proofs.lemmas.List.{length_push, length-drop, get_or-drop, drop-append-le, drop_all}
use Rattle.std.proofs.lemmas.Bool.{cases_Bool, cond_both, cond-false, false_from_ne_true, false≢true, true≢false}
use Rattle.std.proofs.lemmas.Bool.Decides.{Decides-like}
use Rattle.finder.specs.Words.{same}
use Rattle.finder.specs.Meaning.{ExactlyIf}
use Rattle.finder.proofs.HalfRead.{decides_same}
use Rattle.nodes.specs.Nodes.{string, parent, last_byte, is_child, lowest, first_child, next_sibling}
use Rattle.nodes.specs.Tables.{Rooted, Closed, NoneFrom, Next, Answers}
use Rattle.nodes.proofs.Suffixes.{parent-push, last_push, parent-last}
use Rattle.nodes.proofs.Strings.{same-itself, has_string}

-- what fails at the first string and at those behind fails at all
fails_cons : (f : List ℕ → Bool) (t : List ℕ) (ts : List (List ℕ)) (m : ℕ) → f t ≡ false → ((k : ℕ) → k < m → f (string ts k) ≡ false) → (k : ℕ) → k < suc m → f (string (t ∷ ts) k) ≡ false
fails_cons f t ts m here rest zero below = here
fails_cons f t ts m here rest (suc k) below = rest k (omega arith)

-- an answer for the strings behind the first, where the first fails
answers_behind : (n : ℕ) (t : List ℕ) (ts : List (List ℕ)) (f : List ℕ → Bool) (r : ℕ) → f t ≡ false → Answers (suc n) ts f r → Answers n (t ∷ ts) f r
answers_behind n t ts f r fails (inl (is, none)) = inl (is, fails_cons f t ts (length ts) fails none)
answers_behind n t ts f r fails (inr (k, first, is)) =
    inr (suc k, record { within = omega (arith, first.within); passes = first.passes; before = fails_cons f t ts k fails first.before }, omega arith)

-- what `lowest` answers: no string passes and it is 0, or it counts to the first that does
pub lowest-answers : (n : ℕ) (ts : List (List ℕ)) (f : List ℕ → Bool) → Answers n ts f (lowest n ts f)
lowest-answers n [] f = inl (refl, λ k below. absurd (omega arith))
lowest-answers n (t ∷ ts) f =
    let here : f t ≡ true → Answers n (t ∷ ts) f n = λ e. inr (0, record { within = omega arith; passes = e; before = λ j below. absurd (omega arith) }, omega arith) in
    cond_both (f t) n (lowest (suc n) ts f) (Answers n (t ∷ ts) f) here (λ e. answers_behind n t ts f _ e (lowest-answers (suc n) ts f))

-- a string behind the first n, by its own number
string-drop : (ss : List (List ℕ)) (n k : ℕ) → n ≤ k → string ss k ≡ string (drop n ss) (k - n)
string-drop ss n k from = let at : n + (k - n) ≡ k = omega arith in ap (string ss) (sym at) ∙ sym (get_or-drop n ss (k - n) [])

-- the same by the numbers of the strings: no string from n on passes, or the answer is the first
lowest-from : (ss : List (List ℕ)) (f : List ℕ → Bool) (n r : ℕ) → Answers n (drop n ss) f r → ((r ≡ 0) × NoneFrom ss f n) ⊎ Next ss f n r
lowest-from ss f n r (inl (is, none)) = inl (is, λ k from below. ap f (string-drop ss n k from) ∙ none (k - n) (omega (arith, length-drop n ss)))
lowest-from ss f n r (inr (k, first, is)) =
    let at : r - n ≡ k = omega arith in
    inr (record { from = omega arith; within = omega (arith, first.within, length-drop n ss); passes = ap f (string-drop ss n r (omega arith) ∙ ap (string (drop n ss)) at) ∙ first.passes; before = λ j from below. ap f (string-drop ss n j from) ∙ first.before (j - n) (omega arith) })

-- either no string from n on passes and the answer is 0, or the answer is the first that does
pub lowest-is : (ss : List (List ℕ)) (f : List ℕ → Bool) (n : ℕ) → ((lowest n (drop n ss) f ≡ 0) × NoneFrom ss f n) ⊎ Next ss f n (lowest n (drop n ss) f)
lowest-is ss f n = lowest-from ss f n _ (lowest-answers n (drop n ss) f)

-- where the first string fails, the answer is 0 exactly if no string from n on passes
pub lowest-none : (ss : List (List ℕ)) (f : List ℕ → Bool) (n : ℕ) → f (string ss 0) ≡ false → ExactlyIf (lowest n (drop n ss) f ≡ 0) (NoneFrom ss f n)
lowest-none ss f n root = (λ is. ⊎_elim (λ h. h.1) (λ next. absurd (true≢false (sym next.passes ∙ ap (λ r. f (string ss r)) is ∙ root))) (lowest-is ss f n), λ none. ⊎_elim (λ h. h.0) (λ next. absurd (true≢false (sym next.passes ∙ none _ next.from next.within))) (lowest-is ss f n))

-- and any other answer is the first that passes
pub lowest-some : (ss : List (List ℕ)) (f : List ℕ → Bool) (n : ℕ) → 0 < lowest n (drop n ss) f → Next ss f n (lowest n (drop n ss) f)
lowest-some ss f n some = ⊎_elim (λ h. let is = h.0 in absurd (omega arith)) (λ next. next) (lowest-is ss f n)

-- a string is a child of s exactly if it is s and its own last byte
pub decides_child : (s t : List ℕ) → Decides (is_child s t) (t ≡ s ++ (last_byte t ∷ []))
decides_child s [] = (λ e. absurd (false≢true e), λ e. absurd (omega (arith, ap length e, length_push s 0)))
decides_child s (b ∷ t) =
    let last = last_byte (b ∷ t) in
    Decides-like _ (λ is. parent-last (b ∷ t) (omega arith) ∙ ap (λ u. u ++ (last ∷ [])) is) (λ is. ap parent is ∙ parent-push s last) (decides_same (parent (b ∷ t)) s)

-- two children of one string with the same last byte are one
pub same-child : (s t u : List ℕ) → is_child s t ≡ true → is_child s u ≡ true → last_byte t ≡ last_byte u → t ≡ u
same-child s t u this other last = (decides_child s t).0 this ∙ ap (λ b. s ++ (b ∷ [])) last ∙ sym ((decides_child s u).0 other)

-- a string of some bytes is a child of its parent alone
pub child-is : (s t : List ℕ) → 0 < length t → is_child s t ≡ same (parent t) s
child-is s [] some = absurd (omega arith)
child-is s (b ∷ t) some = refl

-- so s and a byte is a child of s alone
pub child-push : (u s : List ℕ) (b : ℕ) → is_child u (s ++ (b ∷ [])) ≡ same s u
child-push u s b = child-is u (s ++ (b ∷ [])) (omega (arith, length_push s b)) ∙ ap (λ v. same v u) (parent-push s b)

-- the root is a child of none
pub child-root : (ss : List (List ℕ)) (s : List ℕ) → Rooted ss → is_child s (string ss 0) ≡ false
child-root ss s rooted = ap (is_child s) rooted.first

-- s has no child of byte b where no number has it
pub no_child : (ss : List (List ℕ)) (s : List ℕ) (b : ℕ) → ((k : ℕ) → k < length ss → is_child s (string ss k) ≡ true → last_byte (string ss k) ≡ b → ⊥) → Has ss (s ++ (b ∷ [])) → ⊥
no_child ss s b none (k, within, at) = none k within (ap (is_child s) (at []) ∙ child-push s s b ∙ same-itself s) (ap last_byte (at []) ∙ last_push s b)

-- there is no first child exactly if no string is a child
pub first_child-none : (ss : List (List ℕ)) (s : List ℕ) → Rooted ss → ExactlyIf (first_child ss s ≡ 0) (NoneFrom ss (is_child s) 0)
first_child-none ss s rooted = lowest-none ss (is_child s) 0 (child-root ss s rooted)

-- and else it is the child of the lowest number
pub first_child-some : (ss : List (List ℕ)) (s : List ℕ) → 0 < first_child ss s → Next ss (is_child s) 0 (first_child ss s)
first_child-some ss s some = lowest-some ss (is_child s) 0 some

-- the next sibling of a child of s is the next child of s
next_sibling-is : (ss : List (List ℕ)) (n : ℕ) (s t : List ℕ) → is_child s t ≡ true → next_sibling ss n t ≡ lowest (suc n) (drop (suc n) ss) (is_child s)
next_sibling-is ss n s [] child = absurd (false≢true child)
next_sibling-is ss n s (b ∷ t) child = ap (λ u. lowest (suc n) (drop (suc n) ss) (is_child u)) ((decides_same (parent (b ∷ t)) s).0 child)

-- a child t of s at number n has no next sibling exactly if no greater number is a child of s
pub next_sibling-none : (ss : List (List ℕ)) (n : ℕ) (s t : List ℕ) → Rooted ss → is_child s t ≡ true → ExactlyIf (next_sibling ss n t ≡ 0) (NoneFrom ss (is_child s) (suc n))
next_sibling-none ss n s t rooted child = rw (next_sibling-is ss n s t child) (lowest-none ss (is_child s) (suc n) (child-root ss s rooted))

-- and else it is the lowest of those
pub next_sibling-some : (ss : List (List ℕ)) (n : ℕ) (s t : List ℕ) → is_child s t ≡ true → 0 < next_sibling ss n t → Next ss (is_child s) (suc n) (next_sibling ss n t)
next_sibling-some ss n s t child = rw (next_sibling-is ss n s t child) (lowest-some ss (is_child s) (suc n))

-- with others behind, an answer other than 0 stays
lowest-kept : (n : ℕ) (ts us : List (List ℕ)) (f : List ℕ → Bool) → 0 < lowest n ts f → lowest n (ts ++ us) f ≡ lowest n ts f
lowest-kept n [] us f some = absurd (omega arith)
lowest-kept n (t ∷ ts) us f some = ⊎_elim (λ e. rw e) (λ e. ap (cond (f t) n) (lowest-kept (suc n) ts us f (rw e at some))) (cases_Bool (f t))

-- and where no string passes the others are asked
lowest-past : (n : ℕ) (ts us : List (List ℕ)) (f : List ℕ → Bool) → ((k : ℕ) → k < length ts → f (string ts k) ≡ false) → lowest n (ts ++ us) f ≡ lowest (n + length ts) us f
lowest-past n [] us f none = ap (λ m. lowest m us f) (omega arith)
lowest-past n (t ∷ ts) us f none =
    cond-false _ _ _ (none 0 (omega arith)) ∙ lowest-past (suc n) ts us f (λ k below. none (suc k) (omega arith)) ∙ ap (λ m. lowest m us f) (omega arith)

-- one string more leaves an answer other than 0
lowest-push_kept : (ss : List (List ℕ)) (f : List ℕ → Bool) (n : ℕ) (t : List ℕ) → n ≤ length ss → 0 < lowest n (drop n ss) f → lowest n (drop n (ss ++ (t ∷ []))) f ≡ lowest n (drop n ss) f
lowest-push_kept ss f n t within some = rw (drop-append-le n ss (t ∷ []) within) (lowest-kept n (drop n ss) (t ∷ []) f some)

-- and where there is none it is asked
lowest-push : (ss : List (List ℕ)) (f : List ℕ → Bool) (n : ℕ) (t : List ℕ) → n ≤ length ss → NoneFrom ss f n → lowest n (drop n (ss ++ (t ∷ []))) f ≡ cond (f t) (length ss) 0
lowest-push ss f n t within none =
    let at : n + length (drop n ss) ≡ length ss = omega (arith, length-drop n ss) in
    let fails : (k : ℕ) → k < length (drop n ss) → f (string (drop n ss) k) ≡ false = λ k below. ap f (get_or-drop n ss k []) ∙ none (n + k) (omega arith) (omega arith) in
    rw (drop-append-le n ss (t ∷ []) within) (lowest-past n (drop n ss) (t ∷ []) f fails ∙ ap (λ m. cond (f t) m 0) at)

-- a first child stays the first
pub first_child-kept : (ss : List (List ℕ)) (t u : List ℕ) → 0 < first_child ss u → first_child (ss ++ (t ∷ [])) u ≡ first_child ss u
first_child-kept ss t u some = lowest-push_kept ss (is_child u) 0 t (omega arith) some

-- a new child of s is the first of s where there was none, and of no other
pub first_child-push : (ss : List (List ℕ)) (s : List ℕ) (b : ℕ) (u : List ℕ) → Rooted ss → first_child ss u ≡ 0 → first_child (ss ++ ((s ++ (b ∷ [])) ∷ [])) u ≡ cond (same s u) (length ss) 0
first_child-push ss s b u rooted none =
    lowest-push ss (is_child u) 0 (s ++ (b ∷ [])) (omega arith) ((first_child-none ss u rooted).0 none) ∙ ap (λ t. cond t (length ss) 0) (child-push u s b)

-- a next sibling stays the next
pub next_sibling-kept : (ss : List (List ℕ)) (n : ℕ) (t u : List ℕ) → n < length ss → 0 < next_sibling ss n u → next_sibling (ss ++ (t ∷ [])) n u ≡ next_sibling ss n u
next_sibling-kept ss n t [] within some = refl
next_sibling-kept ss n t (c ∷ u) within some = lowest-push_kept ss (is_child (parent (c ∷ u))) (suc n) t within some

-- a new child of s is the next sibling of the last child of s, and of no other
pub next_sibling-push : (ss : List (List ℕ)) (n : ℕ) (s : List ℕ) (b : ℕ) (u : List ℕ) → Rooted ss → n < length ss → 0 < length u → next_sibling ss n u ≡ 0
    → next_sibling (ss ++ ((s ++ (b ∷ [])) ∷ [])) n u ≡ cond (same s (parent u)) (length ss) 0
next_sibling-push ss n s b [] rooted within some none = absurd (omega arith)
next_sibling-push ss n s b (c ∷ u) rooted within some none =
    let p = parent (c ∷ u) in
    lowest-push ss (is_child p) (suc n) (s ++ (b ∷ [])) within ((lowest-none ss (is_child p) (suc n) (child-root ss p rooted)).0 none) ∙ ap (λ t. cond t (length ss) 0) (child-push p s b)

-- the root has no sibling
pub next_sibling-root : (ss : List (List ℕ)) (n : ℕ) → next_sibling ss n [] ≡ 0
next_sibling-root ss n = refl

-- nor has the last string a next one
pub next_sibling-last : (ss : List (List ℕ)) (n : ℕ) (u : List ℕ) → length ss ≤ suc n → next_sibling ss n u ≡ 0
next_sibling-last ss n [] past = refl
next_sibling-last ss n (c ∷ u) past = ap (λ ts. lowest (suc n) ts (is_child (parent (c ∷ u)))) (drop_all (suc n) ss past)

-- a string that is not among closed ones has no child among them
pub childless : (ss : List (List ℕ)) (t : List ℕ) → Closed ss → (Has ss t → ⊥) → NoneFrom ss (is_child t) 0
childless ss t closed not k from below = false_from_ne_true _ (λ child. not (closed.shorter t _ (subst (Has ss) ((decides_child t (string ss k)).0 child) (has_string ss k below))))

-- so a new node has no first child
pub first_child-new : (ss : List (List ℕ)) (s : List ℕ) (b : ℕ) → Rooted ss → Closed ss → (Has ss (s ++ (b ∷ [])) → ⊥) → first_child (ss ++ ((s ++ (b ∷ [])) ∷ [])) (s ++ (b ∷ [])) ≡ 0
first_child-new ss s b rooted closed not =
    let t = s ++ (b ∷ []) in
    let apart = false_from_ne_true (same s t) (λ e. omega (arith, length_push s b, ap length ((decides_same s t).0 e))) in
    first_child-push ss s b t rooted ((first_child-none ss t rooted).1 (childless ss t closed not)) ∙ cond-false _ _ _ apart

-- and no next sibling
pub next_sibling-new : (ss : List (List ℕ)) (t : List ℕ) → next_sibling (ss ++ (t ∷ [])) (length ss) t ≡ 0
next_sibling-new ss t = next_sibling-last (ss ++ (t ∷ [])) (length ss) t (omega (arith, length_push ss t))
