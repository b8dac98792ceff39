-- What the words of a list leave in the tracks of a scan.
use Rattle.std.specs.Prelude.{◌≡◌, ℕ, ◌<◌, ◌≤◌, cond, List, length, replicate, Some, None, Option, ◌≢◌, nat_lt, slice_index_or}
use Rattle.std.specs.List.{slice_get}
use Rattle.finder.specs.Meaning.{Bit}
use Rattle.reach.specs.Reached.{Reached, more_words, gap_behind}
use Rattle.window.specs.Windows.{Empty, HoldsEnds, cleared}
use Rattle.landmark.specs.Grammar.{Landmark}
use Rattle.landmark.specs.Lists.{most_landmarks, most_words}
use Rattle.plan.specs.Seats.{Seat, seats}
use Rattle.track.specs.declared.tracks.Tracks.{Tracks}

-- what lies behind a word: nothing where it is its landmark's last, else an open gap or a bounded one
pub data Rear : Type 0 where
  nothing : Rear
  open_gap : Rear
  bounded : Rear

abbrev pub by_greatest : Option ℕ → Rear
by_greatest None = open_gap
by_greatest (Some n) = bounded

abbrev pub rear : Seat → Rear
rear s = cond (nat_lt s.index (more_words s.pattern)) (by_greatest (gap_behind s.pattern s.index).greatest) nothing

-- the smallest number that passes, or none
abbrev pub IsFirst : (ℕ → Type 0) → Option ℕ → Type 0
IsFirst P (Some e) = P e × ((d : ℕ) → P d → e ≤ d)
IsFirst P None = (d : ℕ) → P d → ⊥

-- what is kept of word k, of landmark m, that was reached so, after so many bytes
abbrev pub KeptAs : Rear → (ℕ → Type 0) → ℕ → Tracks → ℕ → ℕ → Type 0
KeptAs nothing reached taken t k m = IsFirst reached (slice_index_or t.ends m None)
KeptAs open_gap reached taken t k m = IsFirst reached (slice_index_or t.firsts k None)
KeptAs bounded reached taken t k m = HoldsEnds reached taken t.windows.numbers k

abbrev pub Kept : (ℕ → Type 0) → ℕ → Tracks → ℕ → Seat → Type 0
Kept reached taken t k s = KeptAs (rear s) reached taken t k s.landmark

abbrev pub ReachedAt : Seat → List ℕ → ℕ → Type 0
ReachedAt s image e = Reached s.pattern s.index image e

-- a word that is not active has an empty window
abbrev pub ActiveTells : Tracks → Type 0
ActiveTells t = (k : ℕ) → k < 64 → (Bit t.active k → ⊥) → Empty t.windows.numbers k

-- a word that no bounded gap follows has an empty window, and so has a number that is no word's
abbrev pub OnlyBounded : List Landmark → Tracks → Type 0
OnlyBounded ms t = (k : ℕ) → ((s : Seat) → slice_get (seats 0 ms) k ≡ Some s → rear s ≢ bounded) → Empty t.windows.numbers k

-- the tracks are those of these landmarks in this image
pub record TracksOf (ms : List Landmark) (image : List ℕ) (t : Tracks) : Type 0 where
  pub kept : (k : ℕ) (s : Seat) → slice_get (seats 0 ms) k ≡ Some s → Kept (ReachedAt s image) (length image) t k s
  pub active : ActiveTells t
  pub only : OnlyBounded ms t

-- nothing is found
pub record NothingFound (t : Tracks) : Type 0 where
  pub ends : t.ends ≡ replicate most_landmarks None
  pub firsts : t.firsts ≡ replicate most_words None
  pub windows : t.windows.numbers ≡ cleared
  pub active : t.active ≡ 0
