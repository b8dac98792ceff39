-- Where an image is entered, by the list, the image and the landmark alone.
use Rattle.std.specs.Prelude.{◌≡◌, ℕ, List, length, Some, None, Ok, Err, Result}
use Rattle.landmark.specs.Records.{or_else}
use Rattle.landmark.specs.declared.refusal.Fault.{Fault}
use Rattle.scan.specs.History.{Opening, open_on}
use Rattle.scan.specs.Rules.{Line, facts, open_refusal, issue_refusal}
use Rattle.scan.specs.Promise.{SoundEntry}

-- a scan of the whole image is opened so
abbrev pub whole : List ℕ → List ℕ → Opening
whole list image = record { list = list; announced = length image }

-- why the image is not entered: opening over a finder of these words is refused, or issuing once all bytes are taken
abbrev pub entry_refusal : List (List ℕ) → List ℕ → List ℕ → ℕ → Line
entry_refusal ws list image k = or_else (open_refusal ws None list (length image)) (issue_refusal None (facts (open_on (whole list image) image)) k)

-- the entry is sound: the smallest end of the entry landmark in an image without a bar; or the earliest refusal
abbrev pub Finds : List (List ℕ) → List ℕ → List ℕ → ℕ → Result ℕ Fault → Type 0
Finds ws list image k (Ok e) = (entry_refusal ws list image k ≡ None) × SoundEntry (whole list image) image k e
Finds ws list image k (Err f) = entry_refusal ws list image k ≡ Some f
