-- A checksum of the ends in an image and of the words that end there.
use Rattle.std.specs.Prelude.{ℕ, zero, suc, ◌+◌, ◌*◌, ◌%◌, ◌^◌, cond, List, take, Ok, Err, Result, ◌==◌}
use Rattle.landmark.specs.declared.refusal.Fault.{Fault}
use Rattle.finder.specs.Words.{half_read, mask}

-- the checksum with one more end and the words that end there; no words leave it as it is
abbrev pub joined : ℕ → ℕ → ℕ → ℕ
joined sum end words = cond (words == 0) sum ((((((sum + end) % 2 ^ 64) * 1099511628211) % 2 ^ 64) + words) % 2 ^ 64)

-- the checksum of the ends up to n
abbrev pub checksum : List (List ℕ) → List ℕ → ℕ → ℕ
checksum ws image zero = 0
checksum ws image (suc n) = joined (checksum ws image n) (suc n) (mask ws (half_read ws (take (suc n) image)))

-- how many entries of a table are in use, 0 where building is refused
abbrev pub used : Result ℕ Fault → ℕ
used (Ok n) = n
used (Err f) = 0
