use Rattle.std.proofs.Common.{◌≡◌}
use lib.Bits.{bit_or}
use Rattle.words.specs.Index.{indexed}
use Rattle.shift.proofs.Clearing.{OnlyLasts}
use Rattle.shift.proofs.Ending.{ended}
use Rattle.shift.proofs.shift.ShiftFinder.ended.Given as goal

-- the words found and those of the bits left are those of the register, and only last bits are left
abbrev pub invariant-loop-place : goal.invariant-loop-place
invariant-loop-place l = (bit_or l.found (ended 0 (indexed l.self.words.index) l.place-iterator.0) ≡ ended 0 (indexed l.self.words.index) l.self.register) × OnlyLasts l.self.edges.lasts l.place-iterator.0
