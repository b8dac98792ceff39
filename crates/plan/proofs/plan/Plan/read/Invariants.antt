use Rattle.std.proofs.Common.{◌≡◌, ℕ}
use Rattle.landmark.specs.Grammar.{items_of, landmarks_of}
use Rattle.landmark.specs.Lists.{parts_from}
use Rattle.landmark.specs.Readings.{readings_from, readings_left}
use Rattle.landmark.proofs.VerdictLaws.{Complete}
use Rattle.plan.specs.Reading.{SoFar}
use Rattle.plan.proofs.plan.Plan.read.Given as goal

-- the records before some place are taken up, and those from there on are left
abbrev pub invariant-loop-read : goal.invariant-loop-read
invariant-loop-read l =
    (p : ℕ) × (readings_left l.read-iterator ≡ readings_from l.list p) × SoFar l.plan l.front (items_of (parts_from l.list p)) (landmarks_of l.list) × Complete (parts_from l.list p)
