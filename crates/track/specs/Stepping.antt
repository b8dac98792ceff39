-- What taking a byte does to the tracks.
use Rattle.std.specs.Prelude.{◌≡◌, ℕ, ◌+◌, List, [], ◌∷◌, ◌++◌, length, Some}
use Rattle.std.specs.List.{slice_get}
use Rattle.finder.specs.Meaning.{Bit, ExactlyIf}
use Rattle.occurrence.specs.Occurrence.{Ends}
use Rattle.reach.specs.Reached.{nth_word}
use Rattle.landmark.specs.Grammar.{Landmark, WellFormed}
use Rattle.plan.specs.Seats.{Seat, PlanOf, seats}
use Rattle.plan.specs.declared.plan.Plan.{Plan}
use Rattle.track.specs.Tracking.{TracksOf}
use Rattle.track.specs.declared.tracks.Tracks.{Tracks}

-- the bits of the words say which words end at the image's last byte
abbrev pub BitsTell : List Landmark → List ℕ → ℕ → Type 0
BitsTell ms image ending = (k : ℕ) (s : Seat) → slice_get (seats 0 ms) k ≡ Some s → ExactlyIf (Bit ending k) (Ends (nth_word s.pattern s.index) image (length image))

-- tracks of an image are those of the image and one byte more, once the words that end at that byte are told
abbrev pub Takes : Plan → Tracks → ℕ → ℕ → Tracks → Type 0
Takes p before ending end after =
    (ms : List Landmark) (image : List ℕ) (b : ℕ) → WellFormed ms → PlanOf p ms → TracksOf ms image before → end ≡ length image + 1
    → BitsTell ms (image ++ (b ∷ [])) ending → TracksOf ms (image ++ (b ∷ [])) after
