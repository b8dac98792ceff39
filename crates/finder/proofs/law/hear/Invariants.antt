use Rattle.std.proofs.Common.{take}
use Rattle.finder.specs.Meaning.{Heard}
use Rattle.finder.proofs.law.hear.Given as goal

-- what the first bytes make of the finder
abbrev pub invariant-loop-b : goal.invariant-loop-b
invariant-loop-b g l = Heard g.F.Finder l.initial.finder (take l.b-index l.bytes) l.finder l.answer
