-- The grammar of a list, independent of its judging, and what a list holds: its landmarks, words and gaps.
use Rattle.std.specs.Prelude.{◌≡◌, ℕ, ◌+◌, ◌<◌, ◌≤◌, false, List, [], ◌∷◌, ◌++◌, map, length, Some, None, Ok, Err, Option, Result}
use Rattle.std.specs.List.{flat_map, AllByRecursion}
use Rattle.occurrence.specs.Occurrence.{Gap, Pattern, last, then}
use Rattle.landmark.specs.Records.{Item, start, run, gap, star, any, encoding, unfit}
use Rattle.landmark.specs.Lists.{Parts, ended, broken, part, parts_from, sort_of, allowance, no_gap, plus, too_wide, most_landmarks, most_words}
use Rattle.landmark.specs.declared.element.Role.{Role}
use Rattle.landmark.specs.declared.judge.Sort.TheVariants.{Operator}
use Rattle.landmark.specs.declared.list.Counts.{Counts}
use Rattle.landmark.specs.declared.refusal.Fault.{Fault}
use Rattle.landmark.specs.declared.word.ListWords.{ListWords}
use Rattle.landmark.specs.declared.word.Word.{Word}

-- a word, with the operators in front of it
pub record Step : Type 0 where
  pub operators : List Item
  pub word : List ℕ

-- a landmark: its role, and its words in order
pub record Landmark : Type 0 where
  pub role : Role
  pub steps : List Step

-- the records of a step, of a landmark and of a list, and the list's bytes
abbrev pub step_items : Step → List Item
step_items s = s.operators ++ (run s.word ∷ [])

abbrev pub landmark_items : Landmark → List Item
landmark_items m = start m.role ∷ flat_map step_items m.steps

abbrev pub list_items : List Landmark → List Item
list_items ms = flat_map landmark_items ms

abbrev pub list_bytes : List Landmark → List ℕ
list_bytes ms = flat_map encoding (list_items ms)

-- the gap that operators make up: the sum over them
abbrev pub gap_of : List Item → Gap
gap_of [] = no_gap
gap_of (i ∷ is) = plus (allowance i) (gap_of is)

-- an operator that a record can stand for
pub record GoodOperator (i : Item) : Type 0 where
  pub operator : sort_of i ≡ Operator
  pub fit : unfit i ≡ None

-- a word of 1 to 64 bytes, and operators in front of it whose sums are at most 255
pub record GoodStep (s : Step) : Type 0 where
  pub operators : AllByRecursion GoodOperator s.operators
  pub narrow : too_wide (gap_of s.operators) ≡ false
  pub word : unfit (run s.word) ≡ None

-- there is a first word, and no operator in front of it
abbrev pub BeginsWithAWord : List Step → Type 0
BeginsWithAWord [] = ⊥
BeginsWithAWord (s ∷ ss) = s.operators ≡ []

pub record GoodLandmark (m : Landmark) : Type 0 where
  pub begins : BeginsWithAWord m.steps
  pub steps : AllByRecursion GoodStep m.steps

abbrev pub words_of_landmark : Landmark → List (List ℕ)
words_of_landmark m = map (λ (s : Step). s.word) m.steps

abbrev pub all_words : List Landmark → List (List ℕ)
all_words ms = flat_map words_of_landmark ms

-- 1 to 32 landmarks and at most 64 words
pub record WellFormed (ms : List Landmark) : Type 0 where
  pub some : 1 ≤ length ms
  pub few : length ms ≤ most_landmarks
  pub few_words : length (all_words ms) ≤ most_words
  pub each : AllByRecursion GoodLandmark ms

abbrev pub sizes : List (List ℕ) → ℕ
sizes [] = 0
sizes (w ∷ ws) = length w + sizes ws

abbrev pub list_counts : List Landmark → Counts
list_counts ms = record { landmarks = length ms; words = length (all_words ms); run_bytes = sizes (all_words ms) }

-- the pattern of a landmark: its words, with the gaps between them
abbrev pub chain : List Step → Pattern
chain [] = last []
chain (s ∷ []) = last s.word
chain (s ∷ t ∷ ss) = then s.word (gap_of t.operators) (chain (t ∷ ss))

abbrev pub pattern_of : Landmark → Pattern
pattern_of m = chain m.steps

-- records put together: the steps before the first start, and the landmarks from there on
pub record Groups : Type 0 where
  pub steps : List Step
  pub landmarks : List Landmark

abbrev pub put_operator : Item → List Step → List Step
put_operator i [] = []
put_operator i (s ∷ ss) = record { operators = i ∷ s.operators; word = s.word } ∷ ss

abbrev pub with_operator : Item → Groups → Groups
with_operator i g = record { steps = put_operator i g.steps; landmarks = g.landmarks }

abbrev pub with_run : List ℕ → Groups → Groups
with_run w g = record { steps = record { operators = []; word = w } ∷ g.steps; landmarks = g.landmarks }

abbrev pub with_start : Role → Groups → Groups
with_start role g = record { steps = []; landmarks = record { role = role; steps = g.steps } ∷ g.landmarks }

abbrev pub grouped : List Item → Groups
grouped [] = record { steps = []; landmarks = [] }
grouped (start role ∷ is) = with_start role (grouped is)
grouped (run w ∷ is) = with_run w (grouped is)
grouped (gap least greatest ∷ is) = with_operator (gap least greatest) (grouped is)
grouped (star ∷ is) = with_operator star (grouped is)
grouped (any ∷ is) = with_operator any (grouped is)

abbrev pub items_of : Parts → List Item
items_of ended = []
items_of (broken why p) = []
items_of (part p i rest) = i ∷ items_of rest

-- the landmarks of a list, numbered from 0 in the list's order
abbrev pub landmarks_of : List ℕ → List Landmark
landmarks_of l = (grouped (items_of (parts_from l 0))).landmarks

-- the words of a list: its runs, numbered from 0 in the list's order
abbrev pub runs_of : List Item → List (List ℕ)
runs_of [] = []
runs_of (start role ∷ is) = runs_of is
runs_of (run bytes ∷ is) = bytes ∷ runs_of is
runs_of (gap least greatest ∷ is) = runs_of is
runs_of (star ∷ is) = runs_of is
runs_of (any ∷ is) = runs_of is

abbrev pub words_from : List ℕ → ℕ → List (List ℕ)
words_from l p = runs_of (items_of (parts_from l p))

abbrev pub words_of : List ℕ → List (List ℕ)
words_of l = words_from l 0

-- the next word from a place on, with the place after it; none where no word is left
abbrev pub NextWord : List ℕ → ℕ → Option Word → Type 0
NextWord l p None = words_from l p ≡ []
NextWord l p (Some w) = (words_from l p ≡ w.bytes.now ∷ words_from l w.next) × (p < w.next) × (w.next ≤ length l)

-- what is left of a list's words
abbrev pub words_left : ListWords → List (List ℕ)
words_left s = words_from s.list.now s.place

-- the bytes are those of these landmarks, which are well formed
pub record IsListOf (l : List ℕ) (ms : List Landmark) : Type 0 where
  pub well_formed : WellFormed ms
  pub bytes : l ≡ list_bytes ms

-- reading a list: accepted exactly if its bytes are those of well-formed landmarks; these are then its landmarks, and it counts them
abbrev pub AcceptedExactly : List ℕ → Result Counts Fault → Type 0
AcceptedExactly l (Ok c) =
    IsListOf l (landmarks_of l) × (c ≡ list_counts (landmarks_of l)) × (words_of l ≡ all_words (landmarks_of l)) × ((ms : List Landmark) → IsListOf l ms → ms ≡ landmarks_of l)
AcceptedExactly l (Err f) = (ms : List Landmark) → IsListOf l ms → ⊥
