use Rattle.std.proofs.Common.{ℕ, ◌<◌}
use Rattle.words.specs.Index.{indexed}
use Rattle.shift.specs.Comparing.{RightAt}
use Rattle.shift.proofs.narrow.Narrow.write.Given as goal

-- the numbers so far are right
abbrev pub invariant-loop-c : goal.invariant-loop-c
invariant-loop-c l = (k : ℕ) → k < l.c → RightAt (indexed l.self.index) l.table k
