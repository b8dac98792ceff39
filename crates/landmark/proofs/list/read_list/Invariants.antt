use Rattle.std.proofs.Common.{◌≡◌, ℕ, length}
use Rattle.landmark.specs.Judging.{HasJudged}
use Rattle.landmark.specs.Lists.{Row, judged, parts_from, list_verdict}
use Rattle.landmark.specs.Readings.{readings_from, readings_left}
use Rattle.landmark.proofs.list.read_list.Given as goal

-- the records before some place are judged, and those from there on are left and give the list's verdict
abbrev pub invariant-loop-read : goal.invariant-loop-read
invariant-loop-read l =
    (p : ℕ) × (row : Row) × (readings_left l.read-iterator ≡ readings_from l.list p) × HasJudged l.judge row × (judged (length l.list) row (parts_from l.list p) ≡ list_verdict l.list)
