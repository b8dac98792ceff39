-- The words of a list from a place on.
use Rattle.std.proofs.Common.{◌≡◌, ℕ, ◌+◌, ◌-◌, ◌<◌, ◌≤◌, ◌⊎◌, List, [], ◌∷◌, ◌++◌, length, get_or, take, drop, None, Ok, Err, sym, refl, ap, ◌∙◌, inl, inr, ⊎_elim, arith, Bor}
use Rattle.std.proofs.lemmas.List.{get_or-take, get_or-drop, get_or_past, length-take, length-drop, get_or-map, take_all, take_at, append-nil}
use Rattle.std.proofs.lemmas.Bool.{cases_lt}
use Rattle.std.proofs.lemmas.Bool.Decides.{nat_tests}
use Rattle.landmark.specs.Records.{Item, run, item, after, unfit, item_at, two_bytes, body_at, longest_run}
use Rattle.landmark.specs.Grammar.{sizes, words_of, words_from, runs_of, items_of}
use Rattle.landmark.specs.Lists.{list_verdict, most_words, parts_from}
use Rattle.landmark.specs.declared.element.Element.{Element}
use Rattle.landmark.specs.declared.element.Element.TheVariants as E
use Rattle.landmark.specs.declared.list.Counts.{Counts}
use Rattle.landmark.specs.declared.refusal.Refusal.{Refusal}
use Rattle.landmark.proofs.ContentLaws.{Bytes, stands}
use Rattle.landmark.proofs.ListLaws.{parts-at_end, parts-at_fault, words-at_record}
use Rattle.landmark.proofs.VerdictLaws.{accepted_exactly}
use Rattle.words.specs.RunSized.{RunSized}
use Rattle.words.specs.Index.{Indexes, indexed, slices}
use Rattle.words.specs.Sizes.{length-indexed, indexed-few}
use Rattle.words.specs.declared.words.Words.{Words}

-- the n bytes of a list from a place on
abbrev pub part_at : List ℕ → ℕ → ℕ → List ℕ
part_at l p n = take n (drop p l)

-- a part inside a list has the length asked for
pub length_part : (l : List ℕ) (p n : ℕ) → p + n ≤ length l → length (part_at l p n) ≡ n
length_part l p n fits = simp (length-take, length-drop) (omega arith)

-- a part of bytes is bytes
part_bytes : (l : List ℕ) (p n : ℕ) → Bytes l → Bytes (part_at l p n)
part_bytes l p n bytes k =
    ⊎_elim (λ within. rw (get_or-take n (drop p l) k 0 within, get_or-drop p l k 0) (bytes (p + k)))
    (λ past. rw (get_or_past (part_at l p n) k 0 (omega (arith, length-take n (drop p l)))) (omega arith))
    (cases_lt k n)

-- a run lies inside the list behind its record's head, and has 1 to 64 bytes
pub record RunAt (l : List ℕ) (p : ℕ) (bytes : List ℕ) : Type 0 where
  pub is : part_at l (p + 4) (length bytes) ≡ bytes
  pub within : p + 4 + length bytes ≤ length l
  pub some : 0 < length bytes
  pub small : length bytes ≤ longest_run

-- a fit run has 1 to 64 bytes
fit_run : (bytes : List ℕ) → unfit (run bytes) ≡ None → RunSized bytes
fit_run bytes fit = (grind (arith, nat_tests), grind (arith, nat_tests))

-- the run whose record stands at a place
run_at : (l : List ℕ) (p : ℕ) (bytes : List ℕ) → Bytes l → item_at l p ≡ Ok (run bytes) → RunAt l p bytes
run_at l p bytes all e =
    let there = stands l p (run bytes) e in
    let fits = there.fits in
    let sized = there.sized in
    let body = there.content.body_is (part_bytes l (p + 4) (two_bytes l p - 2) all) in
    let size : length (body_at l p) ≡ two_bytes l p - 2 = length_part l (p + 4) (two_bytes l p - 2) (omega arith) in
    let same : length bytes ≡ two_bytes l p - 2 = sym (ap length body) ∙ size in
    let (some, small) = fit_run bytes there.content.fit in
    record { is = ap (part_at l (p + 4)) same ∙ body; within = omega arith; some = some; small = small }

-- the run of an element that was read
pub run_read : (l : List ℕ) (p : ℕ) (e : Element) (bytes : Bor (List ℕ)) → Bytes l → item_at l p ≡ Ok (item e) → e ≡ E.Run bytes → RunAt l p bytes.now
run_read l p e bytes all here is = run_at l p bytes.now all (here ∙ ap (λ x. Ok (item x)) is)

-- so it has 1 to 64 bytes, whatever numbers stand in the list
pub run_sized : (l : List ℕ) (p : ℕ) (e : Element) (bytes : Bor (List ℕ)) → item_at l p ≡ Ok (item e) → e ≡ E.Run bytes → RunSized bytes.now
run_sized l p e bytes here is = fit_run bytes.now (stands l p (run bytes.now) (here ∙ ap (λ x. Ok (item x)) is)).content.fit

-- word k is slice k
pub word-indexed : (w : Words) (k : ℕ) (other : Bor (List ℕ)) → k < length (slices w) → get_or (indexed w) k [] ≡ (get_or (slices w) k other).now
word-indexed w k other = get_or-map (λ s. s.now) (slices w) k other []

-- and has its length
pub length-word : (w : Words) (k : ℕ) (other : Bor (List ℕ)) → k < length (slices w) → length (get_or (indexed w) k []) ≡ length (get_or (slices w) k other).now
length-word w k other within = ap length (word-indexed w k other within)

-- the words from a run on
pub words-at_run : (l : List ℕ) (p : ℕ) (e : Element) (bytes : Bor (List ℕ)) → item_at l p ≡ Ok (item e) → e ≡ E.Run bytes → words_from l p ≡ bytes.now ∷ words_from l (after l p)
words-at_run l p e bytes here is = words-at_record l p (item e) here ∙ ap (λ x. runs_of (item x ∷ items_of (parts_from l (after l p)))) is

-- an element that is no run brings no word
no_word : (e : Element) (is : List Item) → ((bytes : Bor (List ℕ)) → e ≡ E.Run bytes → ⊥) → runs_of (item e ∷ is) ≡ runs_of is
no_word (E.Start role) is other = refl
no_word (E.Run bytes) is other = absurd (other bytes refl)
no_word (E.Gap gap) is other = refl
no_word E.Star is other = refl
no_word E.Any is other = refl

-- so the words from it on are those behind it
pub words-past : (l : List ℕ) (p : ℕ) (e : Element) → item_at l p ≡ Ok (item e) → ((bytes : Bor (List ℕ)) → e ≡ E.Run bytes → ⊥) → words_from l p ≡ words_from l (after l p)
words-past l p e here other = words-at_record l p (item e) here ∙ no_word e (items_of (parts_from l (after l p))) other

-- none follows behind the list
pub none_past : (l : List ℕ) (p : ℕ) → length l ≤ p → words_from l p ≡ []
none_past l p past = ap (λ ps. runs_of (items_of ps)) (parts-at_end l p past)

-- where no record stands, no word follows
pub no_words : (l : List ℕ) (p : ℕ) (why : Refusal) → item_at l p ≡ Err why → words_from l p ≡ []
no_words l p why e =
    ⊎_elim (λ within. ap (λ ps. runs_of (items_of ps)) (parts-at_fault l p why within e))
    (none_past l p)
    (cases_lt p (length l))

-- an index that holds all words, or as many as it can, holds the first ones
first_words : (ws : List (List ℕ)) (w : Words) (rest : List (List ℕ)) → indexed w ++ rest ≡ ws → (rest ≡ []) ⊎ (most_words ≤ length (slices w)) → indexed w ≡ take most_words ws
first_words ws w rest all (inl none) =
    let whole : indexed w ≡ ws = sym (append-nil (indexed w)) ∙ ap (λ more. indexed w ++ more) (sym none) ∙ all in
    sym (take_all most_words (indexed w) (indexed-few w)) ∙ ap (take most_words) whole
first_words ws w rest all (inr full) =
    let size : length (indexed w) ≡ most_words = omega (arith, length-indexed w, indexed-few w) in
    sym (take_at (indexed w) rest most_words size) ∙ ap (take most_words) all

-- an accepted list has no more words than an index holds, and they have as many bytes as it counts
accepted_words : (l : List ℕ) (counts : Counts) → Bytes l → list_verdict l ≡ Ok counts → (take most_words (words_of l) ≡ words_of l) × (sizes (words_of l) ≡ counts.run_bytes)
accepted_words l counts bytes e =
    let exactly = accepted_exactly l (Ok counts) bytes e in
    let few = exactly.0.well_formed.few_words in
    let same = exactly.2 in
    (take_all most_words (words_of l) (omega (arith, ap length same)), ap sizes same ∙ ap (λ (c : Counts). c.run_bytes) (sym exactly.1))

-- so the words so far are the index of the list
pub indexes : (l : List ℕ) (w : Words) (rest : List (List ℕ)) → Bytes l → indexed w ++ rest ≡ words_of l → (rest ≡ []) ⊎ (most_words ≤ length (slices w)) → Indexes l w
indexes l w rest bytes all ended =
    let first = first_words (words_of l) w rest all ended in
    record { first = first; all = λ counts e. let (few, total) = accepted_words l counts bytes e in (first ∙ few, ap sizes (first ∙ few) ∙ total) }
