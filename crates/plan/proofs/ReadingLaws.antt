-- What is still to come of a plan, one record after another.
use Rattle.std.proofs.Common.{◌≡◌, ℕ, zero, suc, ◌+◌, ◌-◌, ◌<◌, ◌≤◌, List, [], ◌∷◌, ◌++◌, map, length, Some, None, Option, sym, refl, ap, ◌∙◌, subst, add-zero, zero-add, add-one, arith}
use Rattle.std.proofs.lemmas.List.{append_assoc, append-nil, length-append, length-map, length-take, map-append}
use Rattle.std.specs.List.{AllByRecursion}
use Rattle.occurrence.specs.Occurrence.{Gap, Pattern}
use Rattle.reach.specs.Reached.{more_words, nth_word, gap_behind}
use Rattle.landmark.specs.Records.{Item, start, run}
use Rattle.landmark.specs.Lists.{no_gap, allowance, plus}
use Rattle.landmark.specs.Grammar.{Step, Landmark, Groups, GoodLandmark, WellFormed, BeginsWithAWord, words_of_landmark, all_words, gap_of, grouped, with_operator, put_operator, chain, pattern_of}
use Rattle.landmark.specs.Spacings.{capped}
use Rattle.landmark.specs.declared.element.Role.{Role}
use Rattle.landmark.proofs.GrammarLaws.{plus_assoc, plus_none}
use Rattle.landmark.specs.declared.spacing.Spacing.{Spacing}
use Rattle.plan.specs.Rows.{Pushes, items_in}
use Rattle.plan.specs.Seats.{PlanOf, landmarks_in, role_of, roles_of, seats, seats_from, spot_of, spots_of, words_in}
use Rattle.plan.specs.Reading.{SoFar, Small, front_so_far, with_gap, later_spots, next_spots, spots_to_come}
use Rattle.plan.specs.declared.plan.Plan.{Plan}
use Rattle.plan.specs.declared.plan.Spot.{Spot}

-- the pattern from a step on, inside a longer pattern p: its word n and the gap behind it are those of p at j + n
record Inside (p : Pattern) (j : ℕ) (ss : List Step) : Type 0 where
  words : (n : ℕ) → nth_word p (j + n) ≡ nth_word (chain ss) n
  gaps : (n : ℕ) → gap_behind p (j + n) ≡ gap_behind (chain ss) n

first_word : (s : Step) (ss : List Step) → nth_word (chain (s ∷ ss)) 0 ≡ s.word
first_word s [] = refl
first_word s (t ∷ ss) = refl

step_count : (s : Step) (ss : List Step) → more_words (chain (s ∷ ss)) ≡ length ss
step_count s [] = refl
step_count s (t ∷ ss) = ap suc (step_count t ss)

-- the seats of a landmark behind its first word
later_seats : (m : ℕ) (p : Pattern) (j : ℕ) (s : Step) (ss : List Step) → Inside p j (s ∷ ss) → map spot_of (seats_from (length ss) m p (suc j)) ≡ later_spots m ss
later_seats m p j s [] inside = refl
later_seats m p j s (t ∷ ss) inside =
    let next : Inside p (suc j) (t ∷ ss) = record {
      words = λ n. ap (nth_word p) (omega arith) ∙ inside.words (suc n);
      gaps = λ n. ap (gap_behind p) (omega arith) ∙ inside.gaps (suc n);
    } in
    let word : nth_word p (suc j) ≡ t.word = ap (nth_word p) (omega arith) ∙ inside.words 1 ∙ first_word t ss in
    let gap_is : gap_behind p j ≡ gap_of t.operators = ap (gap_behind p) (sym (add-zero j)) ∙ inside.gaps 0 in
    let spot : List ℕ → Gap → Spot = λ w g. record { length = length w; landmark = m; front = Some (capped g) } in
    ap (λ w. spot w (gap_behind p j) ∷ map spot_of (seats_from (length ss) m p (suc (suc j)))) word
    ∙ ap (λ g. spot t.word g ∷ map spot_of (seats_from (length ss) m p (suc (suc j)))) gap_is
    ∙ ap (λ l. spot t.word (gap_of t.operators) ∷ l) (later_seats m p (suc j) t ss next)

-- the seats of a landmark: its first word has nothing in front of it
landmark_seats : (m : ℕ) (ss : List Step) → BeginsWithAWord ss → map spot_of (seats_from (suc (more_words (chain ss))) m (chain ss) 0) ≡ next_spots m None ss
landmark_seats m [] b = absurd b
landmark_seats m (s ∷ ss) b =
    let whole : Inside (chain (s ∷ ss)) 0 (s ∷ ss) = record { words = λ n. ap (nth_word (chain (s ∷ ss))) (zero-add n); gaps = λ n. ap (gap_behind (chain (s ∷ ss))) (zero-add n) } in
    let spot : List ℕ → Spot = λ w. record { length = length w; landmark = m; front = None } in
    ap (λ w. spot w ∷ map spot_of (seats_from (more_words (chain (s ∷ ss))) m (chain (s ∷ ss)) 1)) (first_word s ss)
    ∙ ap (λ n. spot s.word ∷ map spot_of (seats_from n m (chain (s ∷ ss)) 1)) (step_count s ss)
    ∙ ap (λ l. spot s.word ∷ l) (later_seats m (chain (s ∷ ss)) 0 s ss whole)

-- behind a run nothing lies in front of the next word yet
behind_run : (m : ℕ) (ss : List Step) → next_spots m (Some no_gap) ss ≡ later_spots m ss
behind_run m [] = refl
behind_run m (s ∷ ss) = ap (λ g. record { length = length s.word; landmark = m; front = Some (capped g) } ∷ later_spots m ss) (plus_none (gap_of s.operators)).1

-- a run without operators has in front of it what was there
front_kept : (g : Option Gap) → with_gap g no_gap ≡ g
front_kept None = refl
front_kept (Some g) = ap Some (plus_none g).0

-- an operator goes to what lies in front of the next word
before-operator : (m : ℕ) (g : Option Gap) (i : Item) (ss : List Step) → next_spots m g (put_operator i ss) ≡ next_spots m (with_gap g (allowance i)) ss
before-operator m g i [] = refl
before-operator m g i (s ∷ ss) = ap (λ f. record { length = length s.word; landmark = m; front = front_so_far f } ∷ later_spots m ss) (same g)
  where
    same : (g : Option Gap) → with_gap g (gap_of (i ∷ s.operators)) ≡ with_gap (with_gap g (allowance i)) (gap_of s.operators)
    same None = refl
    same (Some g) = ap Some (sym (plus_assoc g (allowance i) (gap_of s.operators)))

-- a start taken up
pub so_far_start : (p q : Plan) (role : Role) (front : Option Spacing) (is : List Item) (ms : List Landmark) → Small ms → SoFar p front (start role ∷ is) ms → Pushes p.roles role q.roles → q.spots ≡ p.spots → SoFar q None is ms
so_far_start p q role front is ms small f adds same =
    let g = grouped is in
    let few = p.roles.few in
    let size = p.roles.whole in
    let count = ap length f.roles in
    let room : landmarks_in p < 32 = omega (arith, small.0, simp (length-append, length-take, length-map) at count) in
    let count-is : landmarks_in q ≡ suc (landmarks_in p) = adds.count room ∙ add-one (landmarks_in p) in
    let own : map spot_of (seats (landmarks_in p) (grouped (start role ∷ is)).landmarks) ≡ next_spots (landmarks_in p) None g.steps ++ map spot_of (seats (suc (landmarks_in p)) g.landmarks) =
    map-append spot_of (seats_from (suc (more_words (chain g.steps))) (landmarks_in p) (chain g.steps) 0) (seats (suc (landmarks_in p)) g.landmarks)
    ∙ ap (λ l. l ++ map spot_of (seats (suc (landmarks_in p)) g.landmarks)) (landmark_seats (landmarks_in p) g.steps f.good.0.begins) in
    record {
      gap = None;
      front-is = refl;
      spots = ap (λ (x : _). items_in x ++ spots_to_come (landmarks_in q) None g) same
          ∙ ap (λ n. spots_of p ++ spots_to_come n None g) count-is
          ∙ ap (λ l. spots_of p ++ l) (ap (λ n. next_spots n None g.steps ++ map spot_of (seats (suc (landmarks_in p)) g.landmarks)) (omega arith) ∙ sym own)
          ∙ f.spots;
      roles = ap (λ l. l ++ map role_of g.landmarks) (adds.items room) ∙ append_assoc (roles_of p) (role ∷ []) (map role_of g.landmarks) ∙ f.roles;
      good = f.good.1;
    }

-- a run taken up
pub so_far_run : (p q : Plan) (w : List ℕ) (front : Option Spacing) (is : List Item) (ms : List Landmark) → Small ms → SoFar p front (run w ∷ is) ms
    → Pushes p.spots (record { length = length w; landmark = landmarks_in p - 1; front = front }) q.spots → q.roles ≡ p.roles → SoFar q (Some (capped no_gap)) is ms
so_far_run p q w front is ms small f adds same =
    let g = grouped is in
    let few = p.spots.few in
    let size = p.spots.whole in
    let count = ap length f.spots in
    let room : words_in p < 64 = omega (arith, small.1, simp (length-append, length-take, length-map) at count) in
    let here : Option Spacing → Spot = λ x. record { length = length w; landmark = landmarks_in p - 1; front = x } in
    let rest = map spot_of (seats (landmarks_in p) g.landmarks) in
    let front-is : front ≡ front_so_far (with_gap f.gap no_gap) = f.front-is ∙ ap front_so_far (sym (front_kept f.gap)) in
    record {
      gap = Some no_gap;
      front-is = refl;
      spots = ap (λ l. l ++ spots_to_come (landmarks_in q) (Some no_gap) g) (adds.items room)
          ∙ ap (λ (x : _). (spots_of p ++ (here front ∷ [])) ++ spots_to_come x.count (Some no_gap) g) same
          ∙ append_assoc (spots_of p) (here front ∷ []) (spots_to_come (landmarks_in p) (Some no_gap) g)
          ∙ ap (λ l. spots_of p ++ (here front ∷ (l ++ rest))) (behind_run (landmarks_in p - 1) g.steps)
          ∙ ap (λ x. spots_of p ++ (here x ∷ (later_spots (landmarks_in p - 1) g.steps ++ rest))) front-is
          ∙ f.spots;
      roles = ap (λ (x : _). items_in x ++ map role_of g.landmarks) same ∙ f.roles;
      good = f.good;
    }

-- an operator taken up
pub so_far_operator : (p : Plan) (i : Item) (front next : Option Spacing) (is : List Item) (ms : List Landmark) → grouped (i ∷ is) ≡ with_operator i (grouped is)
    → (f : SoFar p front (i ∷ is) ms) → next ≡ front_so_far (with_gap f.gap (allowance i)) → SoFar p next is ms
so_far_operator p i front next is ms groups f e =
    let g = grouped is in
    record {
      gap = with_gap f.gap (allowance i);
      front-is = e;
      spots = ap (λ l. spots_of p ++ (l ++ map spot_of (seats (landmarks_in p) g.landmarks))) (sym (before-operator (landmarks_in p - 1) f.gap i g.steps))
          ∙ ap (λ x. spots_of p ++ spots_to_come (landmarks_in p) f.gap x) (sym groups) ∙ f.spots;
      roles = ap (λ (x : Groups). roles_of p ++ map role_of x.landmarks) (sym groups) ∙ f.roles;
      good = subst (λ (x : Groups). AllByRecursion GoodLandmark x.landmarks) groups f.good;
    }

-- what lies in front of the next word, with one more operator in it
front_wider : (o : Option Gap) (h : Gap) (had next : Spacing) → Some had ≡ front_so_far o → ((g : Gap) → had ≡ capped g → next ≡ capped (plus g h)) → Some next ≡ front_so_far (with_gap o h)
front_wider None h had next is sums = absurd (cc)
front_wider (Some g) h had next is sums = ap Some (sums g cc)

-- one taken up behind a word widens the gap there
pub so_far_wider : (p : Plan) (i : Item) (had next : Spacing) (is : List Item) (ms : List Landmark) → grouped (i ∷ is) ≡ with_operator i (grouped is)
    → ((g : Gap) → had ≡ capped g → next ≡ capped (plus g (allowance i))) → SoFar p (Some had) (i ∷ is) ms → SoFar p (Some next) is ms
so_far_wider p i had next is ms groups sums f = so_far_operator p i (Some had) (Some next) is ms groups f (front_wider f.gap (allowance i) had next f.front-is sums)

-- nothing is to come at the end
pub so_far_end : (p : Plan) (front : Option Spacing) (ms : List Landmark) → Small ms → SoFar p front [] ms → PlanOf p ms
so_far_end p front ms small f =
    let few = p.roles.few in
    let few_words = p.spots.few in
    let roles-size = p.roles.whole in
    let spots-size = p.spots.whole in
    let roles = sym (append-nil (roles_of p)) ∙ f.roles in
    let spots = sym (append-nil (spots_of p)) ∙ f.spots in
    record {
      landmarks = omega (arith, simp (length-take, length-map) at (ap length roles));
      roles = roles;
      words = omega (arith, simp (length-take, length-map) at (ap length spots));
      spots = spots;
    }

-- a landmark has as many seats as words
pub length-seats_from : (n m : ℕ) (p : Pattern) (j : ℕ) → length (seats_from n m p j) ≡ n
length-seats_from zero m p j = refl
length-seats_from (suc n) m p j = ap suc (length-seats_from n m p (suc j))

pub landmark_size : (ss : List Step) → BeginsWithAWord ss → suc (more_words (chain ss)) ≡ length ss
landmark_size [] b = absurd b
landmark_size (s ∷ ss) b = ap suc (step_count s ss)

pub length-seats : (m : ℕ) (ms : List Landmark) → AllByRecursion GoodLandmark ms → length (seats m ms) ≡ length (all_words ms)
length-seats m [] good = refl
length-seats m (x ∷ xs) (good, goods) =
    length-append (seats_from (suc (more_words (pattern_of x))) m (pattern_of x) 0) (seats (suc m) xs)
    ∙ ap (λ n. n + length (seats (suc m) xs)) (length-seats_from (suc (more_words (pattern_of x))) m (pattern_of x) 0 ∙ landmark_size x.steps good.begins ∙ sym (length-map x.steps (λ (s : Step). s.word)))
    ∙ ap (λ n. length (words_of_landmark x) + n) (length-seats (suc m) xs goods)
    ∙ sym (length-append (words_of_landmark x) (all_words xs))

-- well-formed landmarks have room in a plan
pub small : (ms : List Landmark) → WellFormed ms → Small ms
small ms w = (w.few, subst (λ n. n ≤ 64) (sym (length-seats 0 ms w.each)) w.few_words)

-- before the first record all is to come
pub so_far_none : (p : Plan) (is : List Item) (ms : List Landmark) → PlanOf p [] → AllByRecursion GoodLandmark ms → grouped is ≡ record { steps = []; landmarks = ms } → SoFar p None is ms
so_far_none p is ms none good together = record {
  gap = None;
  front-is = refl;
  spots = ap (λ l. l ++ spots_to_come (landmarks_in p) None (grouped is)) none.spots
      ∙ ap (λ n. spots_to_come n None (grouped is)) none.landmarks ∙ ap (spots_to_come 0 None) together;
  roles = ap (λ l. l ++ map role_of (grouped is).landmarks) none.roles ∙ ap (λ (g : Groups). map role_of g.landmarks) together;
  good = subst (λ (g : Groups). AllByRecursion GoodLandmark g.landmarks) (sym together) good;
}
