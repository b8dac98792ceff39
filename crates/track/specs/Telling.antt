-- The steps of taking a byte: the windows forget an end, then each word that ends there is told of.
use Rattle.std.specs.Prelude.{◌≡◌, ℕ, ◌+◌, ◌-◌, ◌%◌, ◌<◌, ◌≤◌, max, true, List, length, Some, None, Option, ◌≢◌, slice_index_or, slice_set}
use Rattle.std.specs.List.{slice_get}
use Rattle.std.specs.Option.{option_or}
use Rattle.finder.specs.Meaning.{Bit, ExactlyIf}
use Rattle.bits.specs.Lowest.{Lowest}
use Rattle.occurrence.specs.Occurrence.{Ends}
use Rattle.reach.specs.Reached.{nth_word}
use Rattle.window.specs.Windows.{Marked, Marks, SomeMarked, span}
use Rattle.window.specs.Bits.{with_bit}
use Rattle.landmark.specs.Grammar.{Landmark, WellFormed}
use Rattle.landmark.specs.declared.spacing.Spacing.{Spacing}
use Rattle.plan.specs.Seats.{Seat, PlanOf, seats}
use Rattle.plan.specs.declared.plan.Plan.{Plan}
use Rattle.plan.specs.declared.plan.Spot.{Spot}
use Rattle.track.specs.Tracking.{ActiveTells, Kept, OnlyBounded, ReachedAt, Rear, bounded, by_greatest, nothing, open_gap}
use Rattle.track.specs.declared.tracks.Tracks.{Tracks}

-- the bit of the end is cleared in every window, and nothing else changes
pub record Forgets (before : Tracks) (end : ℕ) (after : Tracks) : Type 0 where
  pub ends : after.ends ≡ before.ends
  pub firsts : after.firsts ≡ before.firsts
  pub bits : ActiveTells before → (k c : ℕ) → k < 64 → c < span → ExactlyIf (Marked after.windows.numbers k c) (Marked before.windows.numbers k c × (c ≢ end % span))
  pub active : ActiveTells before → ActiveTells after
  pub fewer : (k c : ℕ) → c < span → Marked after.windows.numbers k c → Marked before.windows.numbers k c

-- a word that starts there keeps the gap after an end that the tracks have of word k
abbrev pub KeepsAs : Option ℕ → Tracks → ℕ → ℕ → ℕ → Type 0
KeepsAs None t k least start = (first : ℕ) × (slice_index_or t.firsts k None ≡ Some first) × (first + least ≤ start)
KeepsAs (Some greatest) t k least start = (least ≤ start) × SomeMarked t.windows.numbers k (max 1 (start - greatest)) (start - least)

abbrev pub KeepsAfter : Tracks → ℕ → Spacing → ℕ → Type 0
KeepsAfter t k spacing start = KeepsAs spacing.greatest t k spacing.least start

-- word k, of this size, is reached at an end by what the tracks have
abbrev pub ReachedBehind : Option Spacing → Tracks → ℕ → ℕ → ℕ → Type 0
ReachedBehind None t k size end = Unit {0}
ReachedBehind (Some spacing) t k size end = (0 < k) × (size ≤ end) × KeepsAfter t (k - 1) spacing (end - size)

abbrev pub ReachedBy : Tracks → Spot → ℕ → ℕ → Type 0
ReachedBy t spot k end = ReachedBehind spot.front t k spot.length end

-- what lies behind a word, by the front of the word that is next in the list
abbrev pub rear_by_front : Option Spacing → Rear
rear_by_front None = nothing
rear_by_front (Some spacing) = by_greatest spacing.greatest

abbrev pub rear_by_next : Option Spot → Rear
rear_by_next None = nothing
rear_by_next (Some spot) = rear_by_front spot.front

-- the end put at place i, where none stands there
abbrev pub filled : List (Option ℕ) → ℕ → ℕ → List (Option ℕ)
filled xs i e = slice_set xs i (option_or (slice_index_or xs i None) (Some e))

-- word k of landmark m is reached at e: where its end goes, by what lies behind it
abbrev pub Reaches : Rear → Tracks → ℕ → ℕ → ℕ → Tracks → Type 0
Reaches nothing before k m e after =
    (after.ends ≡ filled before.ends m e) × (after.firsts ≡ before.firsts) × (after.windows.numbers ≡ before.windows.numbers) × (after.active ≡ before.active)
Reaches open_gap before k m e after =
    (after.ends ≡ before.ends) × (after.firsts ≡ filled before.firsts k e) × (after.windows.numbers ≡ before.windows.numbers) × (after.active ≡ before.active)
Reaches bounded before k m e after =
    (after.ends ≡ before.ends) × (after.firsts ≡ before.firsts) × Marks before.windows.numbers k e true after.windows.numbers × (after.active ≡ with_bit before.active k true)

-- word k, at the seat s, was reached at d, but for the end e if its bit is left
abbrev pub Told : ℕ → ℕ → Seat → List ℕ → ℕ → ℕ → Type 0
Told left k s image e d = ReachedAt s image d × (d ≡ e → Bit left k → ⊥)

-- the tracks are those of the image, but that the words whose bits are left are not told of its last byte
pub record Telling (ms : List Landmark) (image : List ℕ) (left : ℕ) (t : Tracks) : Type 0 where
  pub kept : (k : ℕ) (s : Seat) → slice_get (seats 0 ms) k ≡ Some s → Kept (Told left k s image (length image)) (length image) t k s
  pub active : ActiveTells t
  pub only : OnlyBounded ms t

-- word k is told of: it ends at the image's last byte, and its bit was the lowest that was left
abbrev pub TakesWord : Plan → Tracks → ℕ → ℕ → Tracks → Type 0
TakesWord p before k end after =
    (ms : List Landmark) (image : List ℕ) (left rest : ℕ) → WellFormed ms → PlanOf p ms → end ≡ length image → Lowest left k rest
    → ((s : Seat) → slice_get (seats 0 ms) k ≡ Some s → Ends (nth_word s.pattern s.index) image end) → Telling ms image left before → Telling ms image rest after
