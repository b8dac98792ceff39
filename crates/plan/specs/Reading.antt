-- Making a plan: what is still to come of it.
use Rattle.std.specs.Prelude.{◌≡◌, ℕ, ◌-◌, ◌≤◌, List, [], ◌∷◌, ◌++◌, map, length, Some, None, Ok, Err, Option, Result, ◌≢◌}
use Rattle.std.specs.List.{AllByRecursion}
use Rattle.occurrence.specs.Occurrence.{Gap}
use Rattle.landmark.specs.Records.{Item}
use Rattle.landmark.specs.Lists.{list_verdict, most_landmarks, most_words, plus}
use Rattle.landmark.specs.Grammar.{Step, Landmark, Groups, GoodLandmark, gap_of, grouped, landmarks_of}
use Rattle.landmark.specs.Spacings.{capped}
use Rattle.landmark.specs.declared.refusal.Fault.{Fault}
use Rattle.landmark.specs.declared.spacing.Spacing.{Spacing}
use Rattle.plan.specs.Seats.{PlanOf, landmarks_in, role_of, roles_of, seats, spot_of, spots_of}
use Rattle.plan.specs.declared.plan.Plan.{Plan}
use Rattle.plan.specs.declared.plan.Spot.{Spot}

-- the plan of a list that is accepted, or the list's fault
abbrev pub Plans : List ℕ → Result Plan Fault → Type 0
Plans l (Ok p) = ((f : Fault) → list_verdict l ≢ Err f) × PlanOf p (landmarks_of l)
Plans l (Err f) = list_verdict l ≡ Err f

-- in front of the next word: nothing where it is the first, or a gap so far
abbrev pub front_so_far : Option Gap → Option Spacing
front_so_far None = None
front_so_far (Some g) = Some (capped g)

abbrev pub with_gap : Option Gap → Gap → Option Gap
with_gap None h = None
with_gap (Some g) h = Some (plus g h)

-- the spots of steps behind the first of a landmark, and of steps whose first has this in front of it
abbrev pub later_spots : ℕ → List Step → List Spot
later_spots m [] = []
later_spots m (s ∷ ss) = record { length = length s.word; landmark = m; front = Some (capped (gap_of s.operators)) } ∷ later_spots m ss

abbrev pub next_spots : ℕ → Option Gap → List Step → List Spot
next_spots m g [] = []
next_spots m g (s ∷ ss) = record { length = length s.word; landmark = m; front = front_so_far (with_gap g (gap_of s.operators)) } ∷ later_spots m ss

-- what is still to come, behind so many landmarks
abbrev pub spots_to_come : ℕ → Option Gap → Groups → List Spot
spots_to_come count g to = next_spots (count - 1) g to.steps ++ map spot_of (seats count to.landmarks)

-- the plan so far, with what is still to come, is that of these landmarks
pub record SoFar (p : Plan) (front : Option Spacing) (is : List Item) (ms : List Landmark) : Type 0 where
  pub gap : Option Gap
  pub front-is : front ≡ front_so_far gap
  pub spots : spots_of p ++ spots_to_come (landmarks_in p) gap (grouped is) ≡ map spot_of (seats 0 ms)
  pub roles : roles_of p ++ map role_of (grouped is).landmarks ≡ map role_of ms
  pub good : AllByRecursion GoodLandmark (grouped is).landmarks

-- no more landmarks and words than a plan has room for
abbrev pub Small : List Landmark → Type 0
Small ms = (length ms ≤ most_landmarks) × (length (seats 0 ms) ≤ most_words)
