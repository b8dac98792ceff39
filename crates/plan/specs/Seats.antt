-- The words of a list by their places in their landmarks, and what a plan keeps of them.
use Rattle.std.specs.Prelude.{◌≡◌, ℕ, zero, suc, List, [], ◌∷◌, ◌++◌, map, length, Some, None, Option}
use Rattle.occurrence.specs.Occurrence.{Pattern}
use Rattle.reach.specs.Reached.{more_words, nth_word, gap_behind}
use Rattle.landmark.specs.Grammar.{Landmark, pattern_of}
use Rattle.landmark.specs.declared.element.Role.{Role}
use Rattle.landmark.specs.Spacings.{capped}
use Rattle.landmark.specs.declared.spacing.Spacing.{Spacing}
use Rattle.plan.specs.Rows.{items_in}
use Rattle.plan.specs.declared.plan.Plan.{Plan}
use Rattle.plan.specs.declared.plan.Spot.{Spot}

-- word number `index` of the landmark `landmark`, whose pattern is `pattern`
pub record Seat : Type 0 where
  pub landmark : ℕ
  pub pattern : Pattern
  pub index : ℕ

-- the n seats of a landmark from index j on
abbrev pub seats_from : ℕ → ℕ → Pattern → ℕ → List Seat
seats_from zero m p j = []
seats_from (suc n) m p j = record { landmark = m; pattern = p; index = j } ∷ seats_from n m p (suc j)

-- the seats of all words, in the order of their numbers; the first landmark has number m
abbrev pub seats : ℕ → List Landmark → List Seat
seats m [] = []
seats m (x ∷ xs) = seats_from (suc (more_words (pattern_of x))) m (pattern_of x) 0 ++ seats (suc m) xs

-- what lies in front of a word: nothing where it is its landmark's first, else the gap behind the word before
abbrev pub front_of : Pattern → ℕ → Option Spacing
front_of p zero = None
front_of p (suc j) = Some (capped (gap_behind p j))

-- what a plan keeps of a word, and of a landmark
abbrev pub spot_of : Seat → Spot
spot_of s = record { length = length (nth_word s.pattern s.index); landmark = s.landmark; front = front_of s.pattern s.index }

abbrev pub role_of : Landmark → Role
role_of m = m.role

-- the roles and the spots that a plan keeps
abbrev pub roles_of : Plan → List Role
roles_of p = items_in p.roles

abbrev pub spots_of : Plan → List Spot
spots_of p = items_in p.spots

-- how many landmarks and words a plan has
abbrev pub landmarks_in : Plan → ℕ
landmarks_in p = p.roles.count

abbrev pub words_in : Plan → ℕ
words_in p = p.spots.count

-- the plan is that of these landmarks
pub record PlanOf (p : Plan) (ms : List Landmark) : Type 0 where
  pub landmarks : landmarks_in p ≡ length ms
  pub roles : roles_of p ≡ map role_of ms
  pub words : words_in p ≡ length (seats 0 ms)
  pub spots : spots_of p ≡ map spot_of (seats 0 ms)
