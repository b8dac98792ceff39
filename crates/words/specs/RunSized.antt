-- How many bytes a word has.
use Rattle.std.specs.Prelude.{ℕ, ◌<◌, ◌≤◌, List, length}
use Rattle.landmark.specs.Records.{longest_run}

-- a word has as many bytes as a run may have
abbrev pub RunSized : List ℕ → Type 0
RunSized w = (0 < length w) × (length w ≤ longest_run)
