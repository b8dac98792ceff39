-- A checksum of the ends of landmarks in an image.
use Rattle.std.specs.Prelude.{◌≡◌, ℕ, zero, suc, List, length, Some, None, Option}
use Rattle.scan.specs.History.{open_on}
use Rattle.scan.specs.Rules.{Facts, Line, facts, end_at, open_refusal}
use Rattle.entry.specs.Finding.{whole}
use Rattle.bench_export.specs.Checksums.{joined}

-- how many landmarks are asked about: as many as a list may have
abbrev pub asked_landmarks : ℕ
asked_landmarks = 32

-- the checksum with the end of a landmark, by its number from 1 on; no end leaves it as it is
abbrev pub with_end : ℕ → ℕ → Option ℕ → ℕ
with_end sum number None = sum
with_end sum number (Some e) = joined sum e number

-- the checksum of the ends of the first n landmarks
abbrev pub ends_sum : Option Facts → ℕ → ℕ
ends_sum f zero = 0
ends_sum f (suc n) = with_end (ends_sum f n) (suc n) (end_at f n)

-- the checksum of the ends that list and image define, 0 where a line refuses to open
abbrev pub sum_unless : Line → List ℕ → List ℕ → ℕ
sum_unless (Some f) list image = 0
sum_unless None list image = ends_sum (facts (open_on (whole list image) image)) asked_landmarks

-- so it is answered over a finder of these words, however the image is cut
abbrev pub Scans : List (List ℕ) → List ℕ → List ℕ → ℕ → Type 0
Scans ws list image r = r ≡ sum_unless (open_refusal ws None list (length image)) list image
