use Rattle.std.proofs.Common.{take}
use Rattle.link.specs.Entering.{Holds}
use Rattle.link.proofs.enter.enter_words.Given as goal

-- the first words are entered
abbrev pub invariant-loop-k : goal.invariant-loop-k
invariant-loop-k g l = Holds (take l.k (g.S.Source.entered l.source)) l.count l.initial.table l.table
