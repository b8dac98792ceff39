-- A list is accepted exactly if its bytes are those of well-formed landmarks.
use Rattle.std.proofs.Common.{◌≡◌, ℕ, zero, suc, ◌+◌, ◌-◌, ◌<◌, ◌≤◌, Bool, true, false, cond, leb, List, [], ◌∷◌, ◌++◌, map, length, get_or, take, drop, Some, None, Ok, Err, Option, Result, sym, refl, ap, ◌∙◌, subst, ⊎_elim, add-zero, add_assoc, zero-add, arith}
use Rattle.std.proofs.ByRecursion.{All-append}
use Rattle.std.proofs.lemmas.List.{drop_all, drop_at, drop-drop, drop_more, length-drop, length-take, take-append-drop, get_or-drop}
use Rattle.std.proofs.lemmas.Bool.{cond-true, cond-false, le-leb, lt-leb, cases_lt}
use Rattle.std.specs.List.{flat_map, AllByRecursion}
use Rattle.landmark.specs.Records.{Item, start, run, gap, star, any, encoding, item_at, after, two_bytes, body_at, body_of, kind_of, as_two}
use Rattle.landmark.specs.Lists.{Row, Parts, ended, broken, part, part_of, parts, parts_from, judged, unless, counts, list_verdict, newest, ends_well, row_refusal, sort_of, landmarks_in, words_in, bytes_in}
use Rattle.landmark.specs.Grammar.{Step, Landmark, Groups, GoodOperator, GoodStep, GoodLandmark, IsListOf, step_items, landmark_items, grouped, put_operator, with_operator, items_of, runs_of, landmarks_of, list_items, list_counts, all_words, sizes, AcceptedExactly}
use Rattle.landmark.specs.declared.judge.Sort.TheVariants as S
use Rattle.landmark.specs.declared.list.Counts.{Counts}
use Rattle.landmark.specs.declared.refusal.Refusal.{Refusal}
use Rattle.landmark.specs.declared.refusal.Fault.{Fault}
use Rattle.landmark.proofs.ContentLaws.{Bytes, stands, two_split}
use Rattle.landmark.proofs.GrammarLaws.{Accepts, Fit, accepted_well_formed, well_formed_accepted, grouped-list}
use Rattle.landmark.proofs.JudgeLaws.{adds_gap}
use Rattle.landmark.proofs.ListLaws.{parts-at_end, parts-at_record, parts-at_fault}
use Rattle.landmark.proofs.RecordLaws.{encoded_item, item_from, size-from, two_again}

-- the records reach the list's end
abbrev pub Complete : Parts → Type 0
Complete ended = Unit {0}
Complete (broken why p) = ⊥
Complete (part p i rest) = Complete rest

-- the row once more records are judged
abbrev pub onto : List Item → Row → Row
onto [] row = row
onto (i ∷ is) row = onto is (i ∷ row)

unrefused : (o : Option Refusal) (p : ℕ) (r : Result Counts Fault) (c : Counts) → unless o p r ≡ Ok c → (o ≡ None) × (r ≡ Ok c)
unrefused (Some why) p r c e = cc
unrefused None p r c e = (refl, e)

finished : (b : Bool) (r : Counts) (f : Fault) (c : Counts) → cond b (Ok r) (Err f) ≡ Ok c → (b ≡ true) × (c ≡ r)
finished true r f c e = (refl, cc)
finished false r f c e = cc

-- judging accepts exactly the complete records that are accepted as a row
pub accepted_parts : (size : ℕ) (row : Row) (ps : Parts) (c : Counts) → judged size row ps ≡ Ok c → Complete ps × Accepts row (items_of ps) × (c ≡ counts (onto (items_of ps) row))
accepted_parts size row ended c e = let end = finished (ends_well (newest row)) (counts row) _ c e in (tt, end.0, end.1)
accepted_parts size row (broken why p) c e = cc
accepted_parts size row (part p i rest) c e =
    let free = unrefused (row_refusal row (sort_of i)) p _ c e in
    let more = accepted_parts size (i ∷ row) rest c free.1 in
    (more.0, (free.0, more.1), more.2)

parts-accepted : (size : ℕ) (row : Row) (ps : Parts) → Complete ps → Accepts row (items_of ps) → judged size row ps ≡ Ok (counts (onto (items_of ps) row))
parts-accepted size row ended whole a = cond-true _ _ _ a
parts-accepted size row (broken why p) whole a = absurd whole
parts-accepted size row (part p i rest) whole (free, a) = ap (λ o. unless o p (judged size (i ∷ row) rest)) free ∙ parts-accepted size (i ∷ row) rest whole a

-- two bytes of a list are those of the number that they make
drop-two : (l : List ℕ) (p : ℕ) → Bytes l → p + 2 ≤ length l → drop p l ≡ as_two (two_bytes l p) ++ drop (p + 2) l
drop-two l p bytes h =
    drop_more l p 0 (omega arith)
    ∙ ap (λ r. get_or l p 0 ∷ r) (drop_more l (p + 1) 0 (omega arith) ∙ ap (λ n. get_or l (p + 1) 0 ∷ drop n l) (add_assoc p 1 1))
    ∙ ap (λ r. r ++ drop (p + 2) l) (two_split (get_or l p 0) (get_or l (p + 1) 0) (bytes p))

bytes_drop : (n : ℕ) (l : List ℕ) → Bytes l → Bytes (drop n l)
bytes_drop n l bytes k = subst (λ b. b < 256) (sym (get_or-drop n l k 0)) (bytes (n + k))

bytes_take : (n : ℕ) (l : List ℕ) → Bytes l → Bytes (take n l)
bytes_take zero l bytes k = omega arith
bytes_take (suc n) [] bytes k = omega arith
bytes_take (suc n) (x ∷ l) bytes zero = bytes 0
bytes_take (suc n) (x ∷ l) bytes (suc k) = bytes_take n l (λ j. bytes (suc j)) k

-- where an item stands, the bytes are its record's
record_bytes : (l : List ℕ) (p : ℕ) (i : Item) → Bytes l → item_at l p ≡ Ok i → drop p l ≡ encoding i ++ drop (after l p) l
record_bytes l p i bytes e =
    let s = stands l p i e in
    let size = two_bytes l p in
    let fits = s.fits in
    let sized = s.sized in
    let rest = drop (p + 4) l in
    let body : body_at l p ≡ body_of i = s.content.body_is (bytes_take (size - 2) rest (bytes_drop (p + 4) l bytes)) in
    let count : size ≡ 2 + length (body_of i) = omega (arith, ap length body, length-take (size - 2) rest, length-drop (p + 4) l) in
    let behind : drop (size - 2) rest ≡ drop (after l p) l = drop-drop (size - 2) (p + 4) l ∙ ap (λ n. drop n l) (omega arith) in
    let split : rest ≡ body_of i ++ drop (after l p) l = sym (take-append-drop (size - 2) rest) ∙ ap (λ b. b ++ drop (size - 2) rest) body ∙ ap (λ r. body_of i ++ r) behind in
    drop-two l p bytes (omega arith)
    ∙ ap (λ r. as_two size ++ r) (drop-two l (p + 2) bytes (omega arith) ∙ ap (λ n. as_two (two_bytes l (p + 2)) ++ drop n l) (add_assoc p 2 2))
    ∙ ap (λ n. as_two n ++ (as_two (two_bytes l (p + 2)) ++ rest)) count
    ∙ ap (λ n. as_two (2 + length (body_of i)) ++ (as_two n ++ rest)) s.content.kind_is
    ∙ ap (λ r. as_two (2 + length (body_of i)) ++ (as_two (kind_of i) ++ r)) split

-- the records are fit, and theirs are the bytes from the place on
abbrev Covers : List ℕ → ℕ → Parts → Type 0
Covers l p ps = AllByRecursion Fit (items_of ps) × (drop p l ≡ flat_map encoding (items_of ps))

covers_one : (l : List ℕ) (p : ℕ) (rest : Parts) (r : Result Item Refusal) → Bytes l → item_at l p ≡ r → (Complete rest → Covers l (after l p) rest) → Complete (part_of r p rest) → Covers l p (part_of r p rest)
covers_one l p rest (Ok i) bytes e more whole =
    let behind = more whole in
    (((stands l p i e).content.fit, behind.0), record_bytes l p i bytes e ∙ ap (λ b. encoding i ++ b) behind.1)
covers_one l p rest (Err why) bytes e more whole = absurd whole

complete_covers : (most : ℕ) (l : List ℕ) (p : ℕ) → Bytes l → length l < most + p → Complete (parts most l p) → Covers l p (parts most l p)
complete_covers zero l p bytes enough whole = (tt, drop_all p l (omega arith))
complete_covers (suc most) l p bytes enough whole =
    let one = part_of (item_at l p) p (parts most l (after l p)) in
    let more : Complete (parts most l (after l p)) → Covers l (after l p) (parts most l (after l p)) = λ w. complete_covers most l (after l p) bytes (omega arith) w in
    ⊎_elim
    (λ before. let is : parts (suc most) l p ≡ one = cond-false (leb (length l) p) ended one (lt-leb (length l) p before) in
    subst (Covers l p) (sym is) (covers_one l p (parts most l (after l p)) (item_at l p) bytes refl more (subst Complete is whole)))
    (λ past. subst (Covers l p) (sym (cond-true (leb (length l) p) ended one (le-leb (length l) p past))) (tt, drop_all p l past))
    (cases_lt p (length l))

-- and the other way round: bytes that are those of fit records are read as these
record ReadAs (l : List ℕ) (p : ℕ) (is : List Item) : Type 0 where
  complete : Complete (parts_from l p)
  items : items_of (parts_from l p) ≡ is

covered_read : (is : List Item) (l : List ℕ) (p : ℕ) → AllByRecursion Fit is → drop p l ≡ flat_map encoding is → ReadAs l p is
covered_read [] l p fit e =
    let none = parts-at_end l p (omega (arith, length-drop p l, ap length e)) in
    record { complete = subst Complete (sym none) tt; items = ap items_of none }
covered_read (i ∷ is) l p (fit, fits) e =
    let rest = flat_map encoding is in
    let size : two_bytes l p ≡ 2 + length (body_of i) = size-from l p ∙ ap (λ b. two_bytes b 0) e ∙ two_again (2 + length (body_of i)) in
    let item : item_at l p ≡ Ok i = item_from l p ∙ ap (λ b. item_at b 0) e ∙ encoded_item i rest fit in
    let behind : drop (after l p) l ≡ rest = ap (λ n. drop n l) (omega arith) ∙ sym (drop-drop (length (encoding i)) p l) ∙ ap (drop (length (encoding i))) e ∙ drop_at (encoding i) rest _ refl in
    let here : p < length l = omega (arith, length-drop p l, ap length e) in
    let one = parts-at_record l p i here item in
    let more = covered_read is l (after l p) fits behind in
    record { complete = subst Complete (sym one) more.complete; items = ap items_of one ∙ ap (λ js. i ∷ js) more.items }

-- what groups count
abbrev word_of : Step → List ℕ
word_of s = s.word

abbrev words_of_groups : Groups → List (List ℕ)
words_of_groups g = map word_of g.steps ++ all_words g.landmarks

operator_words : (i : Item) (g : Groups) → words_of_groups (with_operator i g) ≡ words_of_groups g
operator_words i g = ap (λ ws. ws ++ all_words g.landmarks) (same g.steps)
  where
    same : (ss : List Step) → map word_of (put_operator i ss) ≡ map word_of ss
    same [] = refl
    same (s ∷ ss) = refl

-- a row of records counts what their groups hold
record Counted (row : Row) (is : List Item) : Type 0 where
  landmarks : landmarks_in (onto is row) ≡ landmarks_in row + length (grouped is).landmarks
  words : words_in (onto is row) ≡ words_in row + length (words_of_groups (grouped is))
  run_bytes : bytes_in (onto is row) ≡ bytes_in row + sizes (words_of_groups (grouped is))

counted_operator : (i : Item) (row : Row) (is : List Item) → sort_of i ≡ S.Operator → grouped (i ∷ is) ≡ with_operator i (grouped is) → Counted (i ∷ row) is → Counted row (i ∷ is)
counted_operator i row is sort grouping c =
    let adds = adds_gap i row sort in
    let same : words_of_groups (grouped (i ∷ is)) ≡ words_of_groups (grouped is) = ap words_of_groups grouping ∙ operator_words i (grouped is) in
    record {
      landmarks = c.landmarks ∙ cc (adds.landmarks, ap (λ (g : Groups). length g.landmarks) grouping);
      words = c.words ∙ cc (adds.words, ap length same);
      run_bytes = c.run_bytes ∙ cc (adds.run_bytes, ap sizes same);
    }

counted : (is : List Item) (row : Row) → Counted row is
counted [] row = record { landmarks = sym (add-zero _); words = sym (add-zero _); run_bytes = sym (add-zero _) }
counted (start role ∷ is) row =
    let c = counted is (start role ∷ row) in
    record { landmarks = omega (arith, c.landmarks); words = c.words; run_bytes = c.run_bytes }
counted (run w ∷ is) row =
    let c = counted is (run w ∷ row) in
    record { landmarks = c.landmarks; words = omega (arith, c.words); run_bytes = omega (arith, c.run_bytes) }
counted (gap least greatest ∷ is) row = counted_operator (gap least greatest) row is refl refl (counted is (gap least greatest ∷ row))
counted (star ∷ is) row = counted_operator star row is refl refl (counted is (star ∷ row))
counted (any ∷ is) row = counted_operator any row is refl refl (counted is (any ∷ row))

counts-are : (is : List Item) (ms : List Landmark) → grouped is ≡ record { steps = []; landmarks = ms } → counts (onto is []) ≡ list_counts ms
counts-are is ms e =
    let c = counted is [] in
    let landmarks : landmarks_in (onto is []) ≡ length ms = c.landmarks ∙ zero-add _ ∙ ap (λ (g : Groups). length g.landmarks) e in
    let words : words_in (onto is []) ≡ length (all_words ms) = c.words ∙ zero-add _ ∙ ap (λ g. length (words_of_groups g)) e in
    let run_bytes : bytes_in (onto is []) ≡ sizes (all_words ms) = c.run_bytes ∙ zero-add _ ∙ ap (λ g. sizes (words_of_groups g)) e in
    cc

-- the runs of the records are the words of their groups
runs_grouped : (is : List Item) → runs_of is ≡ words_of_groups (grouped is)
runs_grouped [] = refl
runs_grouped (start role ∷ is) = runs_grouped is
runs_grouped (run w ∷ is) = ap (λ ws. w ∷ ws) (runs_grouped is)
runs_grouped (gap least greatest ∷ is) = runs_grouped is ∙ sym (operator_words (gap least greatest) (grouped is))
runs_grouped (star ∷ is) = runs_grouped is ∙ sym (operator_words star (grouped is))
runs_grouped (any ∷ is) = runs_grouped is ∙ sym (operator_words any (grouped is))

-- the records of good landmarks are fit
fit_operators : (is : List Item) → AllByRecursion GoodOperator is → AllByRecursion Fit is
fit_operators [] good = tt
fit_operators (i ∷ is) (good, goods) = (good.fit, fit_operators is goods)

fit_steps : (ss : List Step) → AllByRecursion GoodStep ss → AllByRecursion Fit (flat_map step_items ss)
fit_steps [] good = tt
fit_steps (s ∷ ss) (good, goods) =
    All-append Fit (step_items s) (flat_map step_items ss) (All-append Fit s.operators (run s.word ∷ []) (fit_operators s.operators good.operators) (good.word, tt)) (fit_steps ss goods)

fit_landmarks : (ms : List Landmark) → AllByRecursion GoodLandmark ms → AllByRecursion Fit (list_items ms)
fit_landmarks [] good = tt
fit_landmarks (m ∷ ms) (good, goods) = All-append Fit (landmark_items m) (list_items ms) (refl, fit_steps m.steps good.steps) (fit_landmarks ms goods)

-- bytes of well-formed landmarks are read as these
list_read : (l : List ℕ) (ms : List Landmark) → IsListOf l ms → ReadAs l 0 (list_items ms)
list_read l ms is = covered_read (list_items ms) l 0 (fit_landmarks ms is.well_formed.each) is.bytes

-- the records of an accepted list are those of well-formed landmarks, which they are put together to
record MadeOfLandmarks (l : List ℕ) (c : Counts) : Type 0 where
  list_of : IsListOf l (landmarks_of l)
  together : grouped (items_of (parts_from l 0)) ≡ record { steps = []; landmarks = landmarks_of l }
  counts-is : c ≡ list_counts (landmarks_of l)

made_of_landmarks : (l : List ℕ) (c : Counts) → Bytes l → list_verdict l ≡ Ok c → MadeOfLandmarks l c
made_of_landmarks l c bytes e =
    let items = items_of (parts_from l 0) in
    let a = accepted_parts (length l) [] (parts_from l 0) c e in
    let covers = complete_covers (suc (length l)) l 0 bytes (omega arith) a.0 in
    let good = accepted_well_formed items covers.0 a.1 in
    let again : grouped items ≡ record { steps = []; landmarks = landmarks_of l } = ap grouped (sym good.1) ∙ grouped-list (landmarks_of l) good.0.each in
    record {
      list_of = record { well_formed = good.0; bytes = covers.1 ∙ ap (flat_map encoding) (sym good.1) };
      together = again;
      counts-is = a.2 ∙ counts-are items (landmarks_of l) again;
    }

pub accepted_together : (l : List ℕ) (c : Counts) → Bytes l → list_verdict l ≡ Ok c → grouped (items_of (parts_from l 0)) ≡ record { steps = []; landmarks = landmarks_of l }
accepted_together l c bytes e = (made_of_landmarks l c bytes e).together

pub accepted_exactly : (l : List ℕ) (r : Result Counts Fault) → Bytes l → list_verdict l ≡ r → AcceptedExactly l r
accepted_exactly l (Ok c) bytes e =
    let made = made_of_landmarks l c bytes e in (
      made.list_of,
      made.counts-is,
      runs_grouped (items_of (parts_from l 0)) ∙ ap words_of_groups made.together,
      λ ms is. sym (ap (λ (g : Groups). g.landmarks) (ap grouped (list_read l ms is).items ∙ grouped-list ms is.well_formed.each)),
    )
accepted_exactly l (Err f) bytes e =
    λ ms is. let read = list_read l ms is in
    let accepts = subst (Accepts []) (sym read.items) (well_formed_accepted ms is.well_formed) in
    let ok = parts-accepted (length l) [] (parts_from l 0) read.complete accepts in
    cc

-- every record of an accepted list is read, one after another
pub accepted_complete : (l : List ℕ) (c : Counts) → list_verdict l ≡ Ok c → Complete (parts_from l 0)
accepted_complete l c e = (accepted_parts (length l) [] (parts_from l 0) c e).0

pub complete_record : (l : List ℕ) (p : ℕ) (i : Item) → item_at l p ≡ Ok i → Complete (parts_from l p) → Complete (parts_from l (after l p))
complete_record l p i e whole =
    let fits = (stands l p i e).fits in
    subst Complete (parts-at_record l p i (omega arith) e) whole

-- where no record stands, complete records end
pub complete_fault : (l : List ℕ) (p : ℕ) (why : Refusal) → item_at l p ≡ Err why → Complete (parts_from l p) → parts_from l p ≡ ended
complete_fault l p why e whole =
    ⊎_elim (λ before. absurd (subst Complete (parts-at_fault l p why before e) whole)) (λ past. parts-at_end l p past) (cases_lt p (length l))
