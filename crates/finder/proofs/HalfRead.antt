-- Half-read lengths: what the tests tell, and that bytes and steps agree.
use Rattle.std.proofs.Common.{◌≡◌, ℕ, zero, suc, ◌+◌, ◌<◌, ◌≤◌, Bool, true, false, cond, ◌&&◌, ◌||◌, eqb, ltb, ◌⊎◌, List, [], ◌∷◌, ◌++◌, length, get_or, take, Decides, sym, refl, ap, ◌∙◌, subst, inl, inr, ⊎_elim, arith, take-suc}
use Rattle.std.specs.List.{ContainsAt as Has}
use Rattle.std.proofs.lemmas.List.{append_assoc, append-nil, length-map, get_or-map, take_all, same_from_push}
use Rattle.std.proofs.lemmas.Bool.{lt-ltb, le-ltb, cond-true, cond-false, cases_eq, and_left, and_right, false≢true}
use Rattle.std.proofs.lemmas.Bool.Decides.{Decides-and, Decides-or, Decides-like, Decides-eqb, Decides-by_or, Decides-at, same_from_decides}
use Rattle.finder.specs.Words.{same, ends_with, passing, defined, half_read, carried, advance, advance_all, at_rest, holds, word}
use Rattle.finder.specs.Meaning.{ExactlyIf, EndsWith}

-- `same` decides whether two lists are equal
pub decides_same : (xs ys : List ℕ) → Decides (same xs ys) (xs ≡ ys)
decides_same [] [] = (λ _. refl, λ _. refl)
decides_same [] (y ∷ ys) = (λ e. cc, λ e. cc)
decides_same (x ∷ xs) [] = (λ e. cc, λ e. cc)
decides_same (x ∷ xs) (y ∷ ys) = Decides-like _ (λ h. cc (h.0, h.1)) (λ e. (cc, cc)) (Decides-and _ _ (Decides-eqb x y) (decides_same xs ys))

-- bytes end with w where they are w, or end with it behind their first byte
longer : (b : ℕ) (bytes w : List ℕ) → (b ∷ bytes ≡ w) ⊎ EndsWith bytes w → EndsWith (b ∷ bytes) w
longer b bytes w (inl is) = ([], is)
longer b bytes w (inr (front, is)) = (b ∷ front, ap (λ bs. b ∷ bs) is)

-- and the other way round
shorter : (b : ℕ) (bytes w : List ℕ) → EndsWith (b ∷ bytes) w → (b ∷ bytes ≡ w) ⊎ EndsWith bytes w
shorter b bytes w ([], is) = inl is
shorter b bytes w (x ∷ front, is) = inr (front, cc)

-- where no bytes end with w, w is empty
none : (w front : List ℕ) → [] ≡ front ++ w → [] ≡ w
none w [] is = is
none w (x ∷ front) is = cc

-- `ends_with` decides whether the bytes end with w
pub decides_ends_with : (bytes w : List ℕ) → Decides (ends_with bytes w) (EndsWith bytes w)
decides_ends_with [] w = Decides-like _ (λ is. ([], is)) (λ (front, is). none w front is) (decides_same [] w)
decides_ends_with (b ∷ bytes) w = Decides-like _ (longer b bytes w) (shorter b bytes w) (Decides-or _ _ (decides_same (b ∷ bytes) w) (decides_ends_with bytes w))

-- `holds` decides whether a length is in a half list
pub decides_holds : (h : ℕ) (hs : List ℕ) → Decides (holds h hs) (Has hs h)
decides_holds h hs = Decides-by_or (λ x. eqb x h) (λ x. x ≡ h) (holds h) (λ x. Decides-eqb x h) refl (λ _ _. refl) hs

-- every row of bytes ends with no bytes
pub ends_with-nothing : (bytes : List ℕ) → ends_with bytes [] ≡ true
ends_with-nothing bytes = (decides_ends_with bytes []).1 (bytes, sym (append-nil bytes))

-- one more byte: the bytes end with one more byte of w exactly if they ended with what comes before it, and the byte is that of w
pub ends_with-more : (bytes w : List ℕ) (b h : ℕ) → h < length w → ends_with (bytes ++ (b ∷ [])) (take (suc h) w) ≡ (ends_with bytes (take h w) && eqb (get_or w h 0) b)
ends_with-more bytes w b h within =
    same_from_decides _ _ (decides_ends_with _ _) (Decides-like _ there back (Decides-and _ _ (decides_ends_with _ _) (Decides-eqb _ _)))
  where
    there : EndsWith bytes (take h w) × (get_or w h 0 ≡ b) → EndsWith (bytes ++ (b ∷ [])) (take (suc h) w)
    there ((front, is), next) =
        let last = take-suc w h 0 within in
        let whole = append_assoc front (take h w) (get_or w h 0 ∷ []) in
        (front, cc)

    back : EndsWith (bytes ++ (b ∷ [])) (take (suc h) w) → EndsWith bytes (take h w) × (get_or w h 0 ≡ b)
    back (front, is) =
        let last = take-suc w h 0 within in
        let whole = append_assoc front (take h w) (get_or w h 0 ∷ []) in
        let (before, next) = same_from_push bytes (front ++ take h w) b (get_or w h 0) (cc) in
        ((front, before), sym next)

-- a length goes on only if it is in, and its word goes on with the byte b
carried-cond : (b : ℕ) (w : List ℕ) (t : Bool) (h : ℕ) (hs : List ℕ)
    → carried b w (cond t (h ∷ hs) hs) ≡ cond (t && (ltb h (length w) && eqb (get_or w h 0) b)) (suc h ∷ carried b w hs) (carried b w hs)
carried-cond b w true h hs = refl
carried-cond b w false h hs = refl

-- of the lengths from h on that pass a test, the byte b carries on those that pass the next test
carried-passing : (b : ℕ) (w : List ℕ) (test next : ℕ → Bool) → ((h : ℕ) → h < length w → next (suc h) ≡ (test h && eqb (get_or w h 0) b))
    → (n h : ℕ) → h + n ≡ length w → carried b w (passing (suc n) h test) ≡ passing n (suc h) next
carried-passing b w test next goes_on zero h at =
    let past = and_left (ltb h (length w)) (eqb (get_or w h 0) b) (le-ltb h (length w) (omega arith)) in
    carried-cond b w (test h) h [] ∙ cond-false _ _ _ (and_right (test h) _ past)
carried-passing b w test next goes_on (suc n) h at =
    let within : h < length w = omega arith in
    let this = ap (λ l. test h && (l && eqb (get_or w h 0) b)) (lt-ltb h (length w) within) ∙ sym (goes_on h within) in
    let rest = carried-passing b w test next goes_on n (suc h) (omega arith) in
    carried-cond b w (test h) h (passing (suc n) (suc h) test) ∙ (cc)

-- lengths given by a test advance to those given by the next test
pub advance-passing : (b : ℕ) (w : List ℕ) (test next : ℕ → Bool) → next 0 ≡ true → ((h : ℕ) → h < length w → next (suc h) ≡ (test h && eqb (get_or w h 0) b))
    → advance b w (passing (suc (length w)) 0 test) ≡ passing (suc (length w)) 0 next
advance-passing b w test next first goes_on = ap (λ hs. 0 ∷ hs) (carried-passing b w test next goes_on (length w) 0 (omega arith)) ∙ sym (cond-true _ _ _ first)

-- bytes and steps agree: one more byte advances what the bytes define
pub advance-defined : (b : ℕ) (bytes w : List ℕ) → advance b w (defined bytes w) ≡ defined (bytes ++ (b ∷ [])) w
advance-defined b bytes w = advance-passing b w (λ h. ends_with bytes (take h w)) (λ h. ends_with (bytes ++ (b ∷ [])) (take h w)) (ends_with-nothing (bytes ++ (b ∷ []))) (ends_with-more bytes w b)

-- no bytes end with a byte of a word
defined-no_more : (x : ℕ) (xs : List ℕ) (n h : ℕ) → passing n (suc h) (λ k. ends_with [] (take k (x ∷ xs))) ≡ []
defined-no_more x xs zero h = refl
defined-no_more x xs (suc n) h = defined-no_more x xs n (suc h)

-- before any byte, only length 0 is half-read
pub defined-nothing : (w : List ℕ) → defined [] w ≡ 0 ∷ []
defined-nothing [] = refl
defined-nothing (x ∷ xs) = ap (λ hs. 0 ∷ hs) (defined-no_more x xs (suc (length xs)) 0)

-- so of every word: no bytes define what rest leaves
pub half_read-nothing : (ws : List (List ℕ)) → half_read ws [] ≡ at_rest ws
half_read-nothing [] = refl
half_read-nothing (w ∷ ws) = ap (λ hs. hs ∷ half_read ws []) (defined-nothing w) ∙ ap (λ hss. (0 ∷ []) ∷ hss) (half_read-nothing ws)

-- and one more byte is one step
pub advance-half_read : (ws : List (List ℕ)) (b : ℕ) (bytes : List ℕ) → advance_all ws b (half_read ws bytes) ≡ half_read ws (bytes ++ (b ∷ []))
advance-half_read [] b bytes = refl
advance-half_read (w ∷ ws) b bytes = let this = advance-defined b bytes w in let rest = advance-half_read ws b bytes in cc

-- one half list a word: by the bytes
pub length-half_read : (ws : List (List ℕ)) (bytes : List ℕ) → length (half_read ws bytes) ≡ length ws
length-half_read ws bytes = length-map ws (defined bytes)

-- at rest
pub length-at_rest : (ws : List (List ℕ)) → length (at_rest ws) ≡ length ws
length-at_rest ws = length-map ws (λ w. 0 ∷ [])

-- and by steps
pub length-advance_all : (ws : List (List ℕ)) (b : ℕ) (hss : List (List ℕ)) → length hss ≡ length ws → length (advance_all ws b hss) ≡ length ws
length-advance_all [] b hss one = refl
length-advance_all (w ∷ ws) b [] one = one
length-advance_all (w ∷ ws) b (hs ∷ hss) one = ap suc (length-advance_all ws b hss (omega arith))

-- the half list of word k, by the bytes
pub word-half_read : (ws : List (List ℕ)) (bytes : List ℕ) (k : ℕ) → k < length ws → get_or (half_read ws bytes) k [] ≡ defined bytes (word ws k)
word-half_read ws bytes k within = get_or-map (defined bytes) ws k [] [] within

-- the half list of word k, by steps
pub word-advance_all : (ws : List (List ℕ)) (b : ℕ) (hss : List (List ℕ)) (k : ℕ) → length hss ≡ length ws → k < length ws → get_or (advance_all ws b hss) k [] ≡ advance b (word ws k) (get_or hss k [])
word-advance_all [] b hss k one within = absurd (omega arith)
word-advance_all (w ∷ ws) b [] k one within = absurd (omega arith)
word-advance_all (w ∷ ws) b (hs ∷ hss) zero one within = refl
word-advance_all (w ∷ ws) b (hs ∷ hss) (suc k) one within = word-advance_all ws b hss k (omega arith) (omega arith)

-- a row takes in h where a test passes: a number in it is that h, or in the row before
holds-cond : (k : ℕ) (t : Bool) (h : ℕ) (hs : List ℕ) → holds k (cond t (h ∷ hs) hs) ≡ ((t && eqb h k) || holds k hs)
holds-cond k true h hs = refl
holds-cond k false h hs = refl

-- a number is among those that pass exactly if it is one of them all and passes
pub decides_passing : (test : ℕ → Bool) (k n h : ℕ) → Decides (holds k (passing n h test)) ((h ≤ k) × (k < h + n) × (test k ≡ true))
decides_passing test k zero h = (λ e. absurd (false≢true e), λ l. absurd (omega arith))
decides_passing test k (suc n) h =
    Decides-at _ _ (holds-cond k (test h) h (passing n (suc h) test))
    (Decides-like _ there back (Decides-or _ _ (Decides-and _ _ (λ e. e, λ e. e) (Decides-eqb h k)) (decides_passing test k n (suc h))))
  where
    there : ((test h ≡ true) × (h ≡ k)) ⊎ ((suc h ≤ k) × (k < suc h + n) × (test k ≡ true)) → (h ≤ k) × (k < h + suc n) × (test k ≡ true)
    there (inl (passes, is)) = (omega arith, omega arith, cc)
    there (inr (from, below, passes)) = (omega arith, omega arith, passes)

    back : (h ≤ k) × (k < h + suc n) × (test k ≡ true) → ((test h ≡ true) × (h ≡ k)) ⊎ ((suc h ≤ k) × (k < suc h + n) × (test k ≡ true))
    back (from, below, passes) = ⊎_elim (λ is. inl (cc, is)) (λ apart. inr (omega arith, omega arith, passes)) (cases_eq h k)

-- a length is half-read exactly if the bytes end with so many first bytes of the word
pub decides_defined : (bytes w : List ℕ) (h : ℕ) → Decides (holds h (defined bytes w)) ((h ≤ length w) × EndsWith bytes (take h w))
decides_defined bytes w h =
    let ends = decides_ends_with bytes (take h w) in
    Decides-like _ (λ (from, below, passes). (omega arith, ends.0 passes)) (λ (within, is). (omega arith, omega arith, ends.1 is))
    (decides_passing (λ k. ends_with bytes (take k w)) h (suc (length w)) 0)

-- the same by membership
pub defined-means : (bytes w : List ℕ) (h : ℕ) → ExactlyIf (Has (defined bytes w) h) ((h ≤ length w) × EndsWith bytes (take h w))
defined-means bytes w h =
    let by-test = decides_holds h (defined bytes w) in
    let by_bytes = decides_defined bytes w h in
    (λ has. by_bytes.0 (by-test.1 has), λ is. by-test.0 (by_bytes.1 is))

-- a word is read whole exactly if the bytes end with it
pub decides_whole : (bytes w : List ℕ) → Decides (holds (length w) (defined bytes w)) (EndsWith bytes w)
decides_whole bytes w =
    let all = take_all (length w) w (omega arith) in
    Decides-like _ (λ (within, is). subst (EndsWith bytes) all is) (λ is. (omega arith, subst (EndsWith bytes) (sym all) is)) (decides_defined bytes w (length w))

-- two tests that agree pass the same numbers
pub passing-same : (test other : ℕ → Bool) (n h : ℕ) → ((k : ℕ) → h ≤ k → k < h + n → test k ≡ other k) → passing n h test ≡ passing n h other
passing-same test other zero h agree = refl
passing-same test other (suc n) h agree =
    let this = agree h (omega arith) (omega arith) in
    let rest = passing-same test other n (suc h) (λ k from below. agree k (omega arith) (omega arith)) in
    cc

-- bytes that end with the same first bytes of a word define the same lengths of it
pub defined-same : (bytes others w : List ℕ) → ((h : ℕ) → h ≤ length w → ExactlyIf (EndsWith bytes (take h w)) (EndsWith others (take h w))) → defined bytes w ≡ defined others w
defined-same bytes others w agree =
    passing-same _ _ (suc (length w)) 0 (λ h from below.
    let exactly = agree h (omega arith) in
    same_from_decides _ _ (decides_ends_with bytes (take h w)) (Decides-like _ exactly.1 exactly.0 (decides_ends_with others (take h w))))
