-- The next word of a list, by reading on record by record.
use Rattle.std.proofs.Common.{◌≡◌, ℕ, zero, suc, ◌+◌, ◌<◌, ◌≤◌, List, [], ◌∷◌, length, Some, None, Ok, Err, Option, Result, sym, refl, ap, ◌∙◌, subst, IsTrue, arith}
use Rattle.std.specs.Iterator.{Yields, YieldsFirstBy}
use Rattle.std.specs.Iterator.Runs.{SomeRun, AllItemsGive, IsFirstToGive, CallKeepsClosure, YieldsRun}
use Rattle.std.specs.List.{slice_get}
use Rattle.std.specs.Option.{MatchOption, IfSome, IsSomeAnd}
use Rattle.std.proofs.lemmas.Option.{IfSome_then}
use denote.Param.Members.{Mut, Called}
use Rattle.landmark.specs.Grammar.{NextWord, items_of, runs_of, words_from}
use Rattle.landmark.specs.Lists.{Parts, ended, broken, part, parts_from}
use Rattle.landmark.specs.Records.{start, run, gap, star, any, item, item_at, after}
use Rattle.landmark.specs.Readings.{Placed, reading, readings, readings_from, readings_left}
use Rattle.landmark.specs.declared.element.Element.{Element}
use Rattle.landmark.specs.declared.element.Element.TheVariants as E
use Rattle.landmark.specs.declared.element.Read.{Read}
use Rattle.landmark.specs.declared.records.Records.{Records}
use Rattle.landmark.specs.declared.refusal.Fault.{Fault}
use Rattle.landmark.specs.declared.word.Word.{Word}
use Rattle.landmark.proofs.ContentLaws.{stands}
use Rattle.landmark.proofs.ListLaws.{parts-at_end, parts-at_fault, words-at_record}
use Rattle.landmark.proofs.ReadingLaws.{FirstReading, first_reading, readings-at_end, readings_few}

-- the word that a reading brings
abbrev pub word_in : Element → ℕ → Option Word
word_in (E.Start role) next = None
word_in (E.Run bytes) next = Some (record { bytes = bytes; next = next })
word_in (E.Gap between) next = None
word_in E.Star next = None
word_in E.Any next = None

abbrev pub word_of : Result Read Fault → Option Word
word_of (Ok r) = word_in r.element r.next
word_of (Err f) = None

-- a reading brings the next word, or it is behind the reading
abbrev WordOrMore : List ℕ → ℕ → Option Word → List (Result Placed Fault) → Type 0
WordOrMore l p None rest = (q : ℕ) × (p ≤ q) × (words_from l p ≡ words_from l q) × (rest ≡ readings_from l q)
WordOrMore l p (Some w) rest = NextWord l p (Some w)

by_element : (l : List ℕ) (p : ℕ) (e : Element) (next : ℕ) (rest : List (Result Placed Fault)) → item_at l p ≡ Ok (item e) → next ≡ after l p → rest ≡ readings_from l next → WordOrMore l p (word_in e next) rest
by_element l p (E.Start role) next rest is n behind = (next, omega arith, words-at_record l p _ is ∙ ap (words_from l) (sym n), behind)
by_element l p (E.Run bytes) next rest is n behind =
    let fits = (stands l p _ is).fits in
    (words-at_record l p _ is ∙ ap (λ q. bytes.now ∷ words_from l q) (sym n), omega arith, omega arith)
by_element l p (E.Gap between) next rest is n behind = (next, omega arith, words-at_record l p _ is ∙ ap (words_from l) (sym n), behind)
by_element l p E.Star next rest is n behind = (next, omega arith, words-at_record l p _ is ∙ ap (words_from l) (sym n), behind)
by_element l p E.Any next rest is n behind = (next, omega arith, words-at_record l p _ is ∙ ap (words_from l) (sym n), behind)

one_word : (l : List ℕ) (p : ℕ) (r : Result Read Fault) (rest : List (Result Placed Fault)) → FirstReading l p r rest → WordOrMore l p (word_of r) rest
one_word l p (Ok r) rest (h, (is, next, place), behind) = by_element l p r.element r.next rest is next behind
one_word l p (Err f) rest (h, (is, detail), behind) =
    let end : length l ≤ length l = omega arith in
    let here = ap (λ ps. runs_of (items_of ps)) (parts-at_fault l p _ h is) in
    let there = ap (λ ps. runs_of (items_of ps)) (parts-at_end l (length l) end) in
    (length l, omega arith, here ∙ sym there, behind ∙ sym (readings-at_end l (length l) end))

-- where nothing is left to read, no word is left
no_items : (l : List ℕ) (ps : Parts) → readings l ps ≡ [] → runs_of (items_of ps) ≡ []
no_items l ended e = refl
no_items l (broken why p) e = cc
no_items l (part p i rest) e = cc

abbrev Steps : Records → Option (Result Read Fault) → Records → Type 0
Steps = YieldsFirstBy reading readings_left

-- readings without a word, up to the end
no_word : (l : List ℕ) (p : ℕ) (xs : List (Result Read Fault)) (s t u : Records) → readings_left s ≡ readings_from l p → Yields Steps s xs t → Steps t None u → ((k : ℕ) → IfSome (slice_get xs k) (λ x. word_of x ≡ None)) → words_from l p ≡ []
no_word l p [] s t u same is end none = no_items l (parts_from l p) (sym same ∙ ap readings_left is ∙ end.0)
no_word l p (x ∷ xs) s t u same (j, step, more) end none =
    let passed = subst (λ o. WordOrMore l p o (readings_left j)) (none 0) (one_word l p x _ (first_reading l p same step refl)) in
    passed.2 ∙ no_word l passed.0 xs j t u passed.3 more end (λ k. none (suc k))

-- readings of which the one at place i is the first with a word
the_word : (l : List ℕ) (p : ℕ) (w : Word) (i : ℕ) (xs : List (Result Read Fault)) (s t : Records) → readings_left s ≡ readings_from l p → Yields Steps s xs t → IsSomeAnd (slice_get xs i) (λ x. word_of x ≡ Some w) → ((k : ℕ) → k < i → IsSomeAnd (slice_get xs k) (λ x. word_of x ≡ None)) → NextWord l p (Some w)
the_word l p w i [] s t same more at below = absurd at
the_word l p w zero (x ∷ xs) s t same (j, step, more) at below =
    subst (λ o. WordOrMore l p o (readings_left j)) at (one_word l p x _ (first_reading l p same step refl))
the_word l p w (suc i) (x ∷ xs) s t same (j, step, more) at below =
    let passed = subst (λ o. WordOrMore l p o (readings_left j)) (below 0 (omega arith)) (one_word l p x _ (first_reading l p same step refl)) in
    let later = the_word l passed.0 w i xs j t passed.3 more at (λ k h. below (suc k) (omega arith)) in
    (passed.2 ∙ later.0, omega arith, later.2)

is-some_then : {A : Type 0} (o : Option A) (P Q : A → Type 0) → IsSomeAnd o P → ((x : A) → P x → Q x) → IsSomeAnd o Q
is-some_then None P Q h f = absurd h
is-some_then (Some x) P Q h f = f x h

-- what a search for the first word answers
pub word_found : {F : Type 0} (g : Mut F (Result Read Fault × Unit {0}) (Option Word)) (f : F) (l : List ℕ) (p : ℕ) (s : Records) (o : Option Word) → readings_left s ≡ readings_from l p → CallKeepsClosure g f → ((x : Result Read Fault) (r : Option Word) → Called g f (x, tt) r f → word_of x ≡ r) → SomeRun Steps s (λ calls. MatchOption o (IsTrue calls.whole × AllItemsGive calls g f None) (λ y. (i : ℕ) × (i < calls.len) × (calls.len ≡ i + 1) × IsFirstToGive calls g f (Some y) None i)) → NextWord l p o
unfolding YieldsRun
word_found g f l p s None same keeps gives (calls, from, (whole, all)) =
    let (t, yields, end) = calls.gave.0 in
    let at = calls.gave.1 in
    no_word l p calls.items calls.from t (end whole).0 (ap readings_left from ∙ same) yields (end whole).1
    (λ k. subst (λ o. IfSome o (λ x. word_of x ≡ None)) (at k) (IfSome_then (calls.at k) (all keeps k) (λ x h. gives x None h)))
word_found g f l p s (Some w) same keeps gives (calls, from, (i, within, long, first)) =
    let at = calls.gave.1 in
    the_word l p w i calls.items calls.from calls.gave.0.0 (ap readings_left from ∙ same) calls.gave.0.1
    (subst (λ o. IsSomeAnd o (λ x. word_of x ≡ Some w)) (at i) (is-some_then (calls.at i) _ _ (first keeps).0 (λ x h. gives x (Some w) h)))
    (λ k below. subst (λ o. IsSomeAnd o (λ x. word_of x ≡ None)) (at k) (is-some_then (calls.at k) _ _ ((first keeps).1 k below) (λ x h. gives x None h)))

-- no more words come than there are bytes
words-of_items : (l : List ℕ) (ps : Parts) → length (runs_of (items_of ps)) ≤ length (readings l ps)
words-of_items l ended = omega arith
words-of_items l (broken why p) = omega arith
words-of_items l (part p (start role) rest) = omega (arith, words-of_items l rest)
words-of_items l (part p (run bytes) rest) = omega (arith, words-of_items l rest)
words-of_items l (part p (gap least greatest) rest) = omega (arith, words-of_items l rest)
words-of_items l (part p star rest) = omega (arith, words-of_items l rest)
words-of_items l (part p any rest) = omega (arith, words-of_items l rest)

pub words_few : (l : List ℕ) (p : ℕ) → length (words_from l p) ≤ length l
words_few l p = omega (arith, words-of_items l (parts_from l p), readings_few l p)
