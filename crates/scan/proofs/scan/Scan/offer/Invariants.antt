use Rattle.scan.proofs.scan.Scan.offer.Given as goal
use Rattle.scan.specs.Taking.{NextBytes}
use Rattle.std.proofs.Common.{take}

-- so many bytes of the block are taken
abbrev pub invariant-loop-b : goal.invariant-loop-b
invariant-loop-b g l = NextBytes g.F.Finder l.initial.finder l.initial.progress (take l.b-index l.block) l.finder l.progress
