-- The rows of records that judging accepts are those of well-formed landmarks.
use Rattle.std.proofs.Common.{◌≡◌, ℕ, ◌+◌, ◌<◌, ◌≤◌, true, false, List, [], ◌∷◌, ◌++◌, length, Some, None, Option, sym, refl, ap, ◌∙◌, subst, add-zero, add_assoc, zero-add, arith}
use Rattle.std.proofs.lemmas.List.{append_assoc, append-nil, length-append, length-map}
use Rattle.std.proofs.lemmas.Bool.Decides.{nat_tests}
use Rattle.std.specs.List.{flat_map, AllByRecursion}
use Rattle.occurrence.specs.Occurrence.{Gap}
use Rattle.landmark.specs.Records.{Item, start, run, gap, star, any, unfit}
use Rattle.landmark.specs.Lists.{Row, newest, sort_of, landmarks_in, words_in, gap_since, allowance, no_gap, plus, both, too_wide, may_follow, row_refusal, ends_well}
use Rattle.landmark.specs.Grammar.{Step, Landmark, step_items, list_items, gap_of, GoodOperator, GoodStep, BeginsWithAWord, GoodLandmark, all_words, words_of_landmark, WellFormed, Groups, grouped, put_operator, with_operator, with_start}
use Rattle.landmark.specs.declared.element.Role.{Role}
use Rattle.landmark.specs.declared.judge.Sort.{Sort}
use Rattle.landmark.specs.declared.judge.Sort.TheVariants as S
use Rattle.landmark.proofs.JudgeLaws.{adds_gap}

-- a record can stand for the item
abbrev pub Fit : Item → Type 0
Fit i = unfit i ≡ None

-- no record of the row is refused behind those before it, and the last is a run
abbrev pub Accepts : Row → List Item → Type 0
Accepts row [] = ends_well (newest row) ≡ true
Accepts row (i ∷ is) = (row_refusal row (sort_of i) ≡ None) × Accepts (i ∷ row) is

-- gaps one behind the other: the order of adding makes no difference
both-assoc : (a b c : Option ℕ) → both (both a b) c ≡ both a (both b c)
both-assoc None b c = refl
both-assoc (Some m) None c = refl
both-assoc (Some m) (Some n) None = refl
both-assoc (Some m) (Some n) (Some k) = ap Some (add_assoc m n k)

pub plus_assoc : (f g h : Gap) → plus (plus f g) h ≡ plus f (plus g h)
plus_assoc f g h =
    let low = add_assoc f.least g.least h.least in
    let high = both-assoc f.greatest g.greatest h.greatest in
    cc

both-none : (a : Option ℕ) → (both a (Some 0) ≡ a) × (both (Some 0) a ≡ a)
both-none None = (refl, refl)
both-none (Some m) = (ap Some (add-zero m), ap Some (zero-add m))

pub plus_none : (g : Gap) → (plus g no_gap ≡ g) × (plus no_gap g ≡ g)
plus_none g =
    let low : ℕ → Option ℕ → Gap = λ n o. record { least = n; greatest = o } in
    let high = both-none g.greatest in (
      ap (λ n. low n (both g.greatest (Some 0))) (add-zero g.least) ∙ ap (low g.least) high.0,
      ap (λ n. low n (both (Some 0) g.greatest)) (zero-add g.least) ∙ ap (low g.least) high.1,
    )

-- what it says that a record is not refused
starts_freely : (row : Row) → row_refusal row S.Start ≡ None → (may_follow (newest row) S.Start ≡ true) × (landmarks_in row < 32)
starts_freely row e = grind (arith, nat_tests)

runs_freely : (row : Row) → row_refusal row S.Run ≡ None → (may_follow (newest row) S.Run ≡ true) × (too_wide (gap_since row) ≡ false) × (words_in row < 64)
runs_freely row e = grind (arith, nat_tests)

operates_freely : (row : Row) → row_refusal row S.Operator ≡ None → may_follow (newest row) S.Operator ≡ true
operates_freely row e = grind (arith, nat_tests)

-- and the other way round
may_start : (row : Row) → may_follow (newest row) S.Start ≡ true → landmarks_in row < 32 → row_refusal row S.Start ≡ None
may_start row m h = grind (arith, nat_tests)

may_run : (row : Row) → may_follow (newest row) S.Run ≡ true → too_wide (gap_since row) ≡ false → words_in row < 64 → row_refusal row S.Run ≡ None
may_run row m w h = grind (arith, nat_tests)

may_operate : (row : Row) → may_follow (newest row) S.Operator ≡ true → row_refusal row S.Operator ≡ None
may_operate row m = grind (arith, nat_tests)

-- the steps that may come behind a row whose newest record is so
abbrev First : Option Sort → List Step → List Landmark → Type 0
First None ss ms = (ss ≡ []) × (1 ≤ length ms)
First (Some S.Start) ss ms = BeginsWithAWord ss
First (Some S.Run) ss ms = Unit {0}
First (Some S.Operator) ss ms = 1 ≤ length ss

-- good steps, the first of them behind operators that make up the gap g already
abbrev StepsBehind : Gap → List Step → Type 0
StepsBehind g [] = Unit {0}
StepsBehind g (s ∷ ss) = AllByRecursion GoodOperator s.operators × (too_wide (plus g (gap_of s.operators)) ≡ false) × Fit (run s.word) × AllByRecursion GoodStep ss

-- what records that are accepted behind a row are put together to
record Rest (row : Row) (is : List Item) (g : Groups) : Type 0 where
  items : flat_map step_items g.steps ++ list_items g.landmarks ≡ is
  first : First (newest row) g.steps g.landmarks
  steps : StepsBehind (gap_since row) g.steps
  each : AllByRecursion GoodLandmark g.landmarks
  few : landmarks_in row + length g.landmarks ≤ 32
  few_words : words_in row + (length g.steps + length (all_words g.landmarks)) ≤ 64

-- steps behind no operators are good steps
good_steps : (ss : List Step) → StepsBehind no_gap ss → AllByRecursion GoodStep ss
good_steps [] h = tt
good_steps (s ∷ ss) (ops, narrow, word, more) =
    (record { operators = ops; narrow = subst (λ g. too_wide g ≡ false) (plus_none (gap_of s.operators)).1 narrow; word = word }, more)

steps_behind : (ss : List Step) → AllByRecursion GoodStep ss → StepsBehind no_gap ss
steps_behind [] h = tt
steps_behind (s ∷ ss) (good, more) =
    (good.operators, subst (λ g. too_wide g ≡ false) (sym (plus_none (gap_of s.operators)).1) good.narrow, good.word, more)

-- a row stays small
abbrev Small : Row → Type 0
Small row = (landmarks_in row ≤ 32) × (words_in row ≤ 64)

at_end : (row : Row) → Small row → ends_well (newest row) ≡ true → Rest row [] (grouped [])
at_end row small e =
    record { items = refl; first = behind_run (newest row) e; steps = tt; each = tt; few = omega arith; few_words = omega arith }
  where
    behind_run : (o : Option Sort) → ends_well o ≡ true → First o [] []
    behind_run None e = cc
    behind_run (Some S.Start) e = cc
    behind_run (Some S.Run) e = tt
    behind_run (Some S.Operator) e = cc

-- a start opens the landmark that the steps behind it make up
put-start : (role : Role) (row : Row) (is : List Item) → row_refusal row S.Start ≡ None → Rest (start role ∷ row) is (grouped is) → Rest row (start role ∷ is) (grouped (start role ∷ is))
put-start role row is e r =
    let g = grouped is in
    let good : GoodLandmark (record { role = role; steps = g.steps }) = record { begins = r.first; steps = good_steps g.steps r.steps } in
    record {
      items = ap (λ l. start role ∷ l) r.items;
      first = opens (newest row) (starts_freely row e).0;
      steps = tt;
      each = (good, r.each);
      few = omega (arith, r.few);
      few_words = omega (arith, r.few_words, length-append (words_of_landmark (record { role = role; steps = g.steps })) (all_words g.landmarks), length-map g.steps (λ (s : Step). s.word));
    }
  where
    opens : (o : Option Sort) → may_follow o S.Start ≡ true → First o [] (grouped (start role ∷ is)).landmarks
    opens None m = (refl, omega arith)
    opens (Some S.Start) m = cc
    opens (Some S.Run) m = tt
    opens (Some S.Operator) m = cc

-- a run closes a step
put-run : (w : List ℕ) (row : Row) (is : List Item) → Fit (run w) → row_refusal row S.Run ≡ None → Rest (run w ∷ row) is (grouped is) → Rest row (run w ∷ is) (grouped (run w ∷ is))
put-run w row is fit e r =
    let g = grouped is in
    let free = runs_freely row e in
    record {
      items = ap (λ l. run w ∷ l) r.items;
      first = closes (newest row) free.0;
      steps = (tt, subst (λ h. too_wide h ≡ false) (sym (plus_none (gap_since row)).0) free.1, fit, good_steps g.steps r.steps);
      each = r.each;
      few = r.few;
      few_words = omega (arith, r.few_words);
    }
  where
    closes : (o : Option Sort) → may_follow o S.Run ≡ true → First o (grouped (run w ∷ is)).steps (grouped is).landmarks
    closes None m = cc
    closes (Some S.Start) m = refl
    closes (Some S.Run) m = tt
    closes (Some S.Operator) m = omega arith

-- an operator goes in front of the next word
put-before : (i : Item) (row : Row) (is : List Item) (ss : List Step) (ms : List Landmark) → sort_of i ≡ S.Operator → Fit i → row_refusal row S.Operator ≡ None → Rest (i ∷ row) is (record { steps = ss; landmarks = ms }) → Rest row (i ∷ is) (with_operator i (record { steps = ss; landmarks = ms }))
put-before i row is [] ms sort fit e r =
    let some : 1 ≤ 0 = subst (λ k. First (Some k) [] ms) sort r.first in
    absurd (omega arith)
put-before i row is (s ∷ ss) ms sort fit e r =
    let adds = adds_gap i row sort in
    let behind = r.steps in
    let sums = ap (λ g. plus g (gap_of s.operators)) adds.spacing ∙ plus_assoc (gap_since row) (allowance i) (gap_of s.operators) in
    record {
      items = ap (λ l. i ∷ l) r.items;
      first = goes (newest row) (operates_freely row e);
      steps = ((record { operator = sort; fit = fit }, behind.0), subst (λ g. too_wide g ≡ false) sums behind.1, behind.2, behind.3);
      each = r.each;
      few = omega (arith, r.few, adds.landmarks);
      few_words = omega (arith, r.few_words, adds.words);
    }
  where
    goes : (o : Option Sort) → may_follow o S.Operator ≡ true → First o (put_operator i (s ∷ ss)) ms
    goes None m = cc
    goes (Some S.Start) m = cc
    goes (Some S.Run) m = tt
    goes (Some S.Operator) m = omega arith

-- what is accepted behind a small row, put together
rest_of : (is : List Item) (row : Row) → Small row → AllByRecursion Fit is → Accepts row is → Rest row is (grouped is)
rest_of [] row small fit e = at_end row small e
rest_of (start role ∷ is) row small fit (e, more) =
    let free = starts_freely row e in
    put-start role row is e (rest_of is (start role ∷ row) (omega arith, small.1) fit.1 more)
rest_of (run w ∷ is) row small fit (e, more) =
    let free = runs_freely row e in
    put-run w row is fit.0 e (rest_of is (run w ∷ row) (small.0, omega arith) fit.1 more)
rest_of (gap least greatest ∷ is) row small fit (e, more) = put-before (gap least greatest) row is _ _ refl fit.0 e (rest_of is (gap least greatest ∷ row) small fit.1 more)
rest_of (star ∷ is) row small fit (e, more) = put-before star row is _ _ refl fit.0 e (rest_of is (star ∷ row) small fit.1 more)
rest_of (any ∷ is) row small fit (e, more) = put-before any row is _ _ refl fit.0 e (rest_of is (any ∷ row) small fit.1 more)

-- records that are accepted are those of well-formed landmarks
pub accepted_well_formed : (is : List Item) → AllByRecursion Fit is → Accepts [] is → WellFormed (grouped is).landmarks × (list_items (grouped is).landmarks ≡ is)
accepted_well_formed is fit a =
    let r = rest_of is [] (omega arith, omega arith) fit a in
    let none = r.first.0 in (
      record { some = r.first.1; few = omega (arith, r.few); few_words = omega (arith, r.few_words); each = r.each },
      ap (λ ss. flat_map step_items ss ++ list_items (grouped is).landmarks) (sym none) ∙ r.items,
    )

-- where a run may be read, behind these operators
abbrev MayRead : Option Sort → List Item → Type 0
MayRead None ops = ⊥
MayRead (Some S.Start) ops = ops ≡ []
MayRead (Some S.Run) ops = Unit {0}
MayRead (Some S.Operator) ops = Unit {0}

-- the row behind which the records that follow a run are judged
record ReadRun (row next : Row) : Type 0 where
  newest-is : newest next ≡ Some S.Run
  landmarks : landmarks_in next ≡ landmarks_in row
  words : words_in next ≡ words_in row + 1
  gap_is : gap_since next ≡ no_gap

-- operators and the run behind them are accepted where their sums are narrow
accepts_step : (ops : List Item) (w : List ℕ) (row : Row) (tail : List Item) → AllByRecursion GoodOperator ops → too_wide (plus (gap_since row) (gap_of ops)) ≡ false → words_in row < 64 → MayRead (newest row) ops → ((next : Row) → ReadRun row next → Accepts next tail) → Accepts row (ops ++ (run w ∷ tail))
accepts_step [] w row tail good narrow few may more = (
  may_run row (run_may (newest row) may) (subst (λ g. too_wide g ≡ false) (plus_none (gap_since row)).0 narrow) few,
  more (run w ∷ row) (record { newest-is = refl; landmarks = refl; words = refl; gap_is = refl }),
)
  where
    run_may : (o : Option Sort) → MayRead o [] → may_follow o S.Run ≡ true
    run_may None m = absurd m
    run_may (Some S.Start) m = refl
    run_may (Some S.Run) m = refl
    run_may (Some S.Operator) m = refl
accepts_step (i ∷ ops) w row tail (good, goods) narrow few may more =
    let adds = adds_gap i row good.operator in
    let sums = ap (λ g. plus g (gap_of ops)) adds.spacing ∙ plus_assoc (gap_since row) (allowance i) (gap_of ops) in (
      subst (λ k. row_refusal row k ≡ None) (sym good.operator) (may_operate row (operator_may (newest row) may)),
      accepts_step ops w (i ∷ row) tail goods (subst (λ g. too_wide g ≡ false) (sym sums) narrow) (omega (arith, adds.words))
          (subst (λ k. MayRead (Some k) ops) (sym good.operator) tt)
          (λ next r. more next (record { newest-is = r.newest-is; landmarks = r.landmarks ∙ adds.landmarks; words = r.words ∙ ap (λ n. n + 1) adds.words; gap_is = r.gap_is })),
    )
  where
    operator_may : (o : Option Sort) → MayRead o (i ∷ ops) → may_follow o S.Operator ≡ true
    operator_may None m = absurd m
    operator_may (Some S.Start) m = cc
    operator_may (Some S.Run) m = refl
    operator_may (Some S.Operator) m = refl

-- the rows behind which the records that follow steps are judged
record ReadSteps (row : Row) (count : ℕ) (next : Row) : Type 0 where
  newest-is : newest next ≡ Some S.Run
  landmarks : landmarks_in next ≡ landmarks_in row
  words : words_in next ≡ words_in row + count

-- where steps may be read: behind a start the first has no operator
abbrev MayGo : Option Sort → List Step → Type 0
MayGo o [] = o ≡ Some S.Run
MayGo o (s ∷ ss) = MayRead o s.operators

go_on : (ss : List Step) → MayGo (Some S.Run) ss
go_on [] = refl
go_on (s ∷ ss) = tt

go_first : (ss : List Step) → BeginsWithAWord ss → MayGo (Some S.Start) ss
go_first [] b = absurd b
go_first (s ∷ ss) b = b

-- good steps are accepted
accepts_steps : (ss : List Step) (row : Row) (tail : List Item) → AllByRecursion GoodStep ss → MayGo (newest row) ss → gap_since row ≡ no_gap → words_in row + length ss ≤ 64 → ((next : Row) → ReadSteps row (length ss) next → Accepts next tail) → Accepts row (flat_map step_items ss ++ tail)
accepts_steps [] row tail good may none few more = more row (record { newest-is = may; landmarks = refl; words = sym (add-zero (words_in row)) })
accepts_steps (s ∷ ss) row tail (good, goods) may none few more =
    let narrow : too_wide (plus (gap_since row) (gap_of s.operators)) ≡ false =
    ap too_wide (ap (λ g. plus g (gap_of s.operators)) none ∙ (plus_none (gap_of s.operators)).1) ∙ good.narrow in
    let items : s.operators ++ (run s.word ∷ (flat_map step_items ss ++ tail)) ≡ (step_items s ++ flat_map step_items ss) ++ tail = simp append_assoc in
    subst (Accepts row) items
    (accepts_step s.operators s.word row (flat_map step_items ss ++ tail) good.operators narrow (omega arith) may
    (λ next r. accepts_steps ss next tail goods (subst (λ o. MayGo o ss) (sym r.newest-is) (go_on ss)) r.gap_is (omega (arith, r.words))
    (λ last q. more last (record { newest-is = q.newest-is; landmarks = q.landmarks ∙ r.landmarks; words = omega (arith, q.words, r.words) }))))

-- good landmarks are accepted behind a row that a start may follow, and the last of them ends behind a run
accepts_landmarks : (ms : List Landmark) (row : Row) → AllByRecursion GoodLandmark ms → may_follow (newest row) S.Start ≡ true → (length ms ≡ 0 → newest row ≡ Some S.Run) → landmarks_in row + length ms ≤ 32 → words_in row + length (all_words ms) ≤ 64 → Accepts row (list_items ms)
accepts_landmarks [] row good may ends few words = ap ends_well (ends refl)
accepts_landmarks (m ∷ ms) row (good, goods) may ends few words =
    let count : length (words_of_landmark m) ≡ length m.steps = length-map m.steps (λ (s : Step). s.word) in
    let split : length (all_words (m ∷ ms)) ≡ length (words_of_landmark m) + length (all_words ms) = length-append (words_of_landmark m) (all_words ms) in (
      may_start row may (omega arith),
      accepts_steps m.steps (start m.role ∷ row) (list_items ms) good.steps (go_first m.steps good.begins) refl (omega arith)
          (λ next r. accepts_landmarks ms next goods (ap (λ o. may_follow o S.Start) r.newest-is) (λ _. r.newest-is) (omega (arith, r.landmarks)) (omega (arith, r.words))),
    )

-- the records of well-formed landmarks are accepted
pub well_formed_accepted : (ms : List Landmark) → WellFormed ms → Accepts [] (list_items ms)
well_formed_accepted ms w =
    accepts_landmarks ms [] w.each refl (λ none. absurd (omega (arith, w.some))) (omega (arith, w.few)) (omega (arith, w.few_words))

-- and they are put together to these landmarks again
grouped-operator : (i : Item) (is : List Item) → sort_of i ≡ S.Operator → grouped (i ∷ is) ≡ with_operator i (grouped is)
grouped-operator (start role) is e = cc
grouped-operator (run w) is e = cc
grouped-operator (gap least greatest) is e = refl
grouped-operator star is e = refl
grouped-operator any is e = refl

grouped-step : (ops : List Item) (w : List ℕ) (is : List Item) → AllByRecursion GoodOperator ops → grouped (ops ++ (run w ∷ is)) ≡ record { steps = record { operators = ops; word = w } ∷ (grouped is).steps; landmarks = (grouped is).landmarks }
grouped-step [] w is good = refl
grouped-step (i ∷ ops) w is (good, goods) =
    grouped-operator i (ops ++ (run w ∷ is)) good.operator ∙ ap (with_operator i) (grouped-step ops w is goods)

grouped-steps : (ss : List Step) (is : List Item) → AllByRecursion GoodStep ss → grouped (flat_map step_items ss ++ is) ≡ record { steps = ss ++ (grouped is).steps; landmarks = (grouped is).landmarks }
grouped-steps [] is good = refl
grouped-steps (s ∷ ss) is (good, goods) =
    let items : (step_items s ++ flat_map step_items ss) ++ is ≡ s.operators ++ (run s.word ∷ (flat_map step_items ss ++ is)) = simp append_assoc in
    ap grouped items ∙ grouped-step s.operators s.word (flat_map step_items ss ++ is) good.operators
    ∙ ap (λ (g : Groups). record { steps = s ∷ g.steps; landmarks = g.landmarks }) (grouped-steps ss is goods)

pub grouped-list : (ms : List Landmark) → AllByRecursion GoodLandmark ms → grouped (list_items ms) ≡ record { steps = []; landmarks = ms }
grouped-list [] good = refl
grouped-list (m ∷ ms) (good, goods) =
    let behind = grouped-list ms goods in
    ap (with_start m.role) (grouped-steps m.steps (list_items ms) good.steps ∙ ap (λ (g : Groups). record { steps = m.steps ++ g.steps; landmarks = g.landmarks }) behind)
    ∙ ap (λ ss. record { steps = []; landmarks = record { role = m.role; steps = ss } ∷ ms }) (append-nil m.steps)
