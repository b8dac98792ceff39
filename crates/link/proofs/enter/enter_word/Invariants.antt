use Rattle.std.proofs.Common.{◌<◌, List, length, take}
use Rattle.finder.specs.Words.{word}
use Rattle.link.specs.Entering.{Holds, Reaches}
use Rattle.link.specs.declared.node.Node.{Node}
use Rattle.link.proofs.enter.enter_word.Given as goal

-- the first symbols of the word are entered
abbrev pub invariant-loop-i : goal.invariant-loop-i
invariant-loop-i g l =
    (l.reached.node < length l.table) × ((before : List Node) → Holds (take l.k (g.S.Source.entered l.source)) l.initial.reached.count before l.initial.table
    → Reaches (take l.k (g.S.Source.entered l.source)) (take l.i (word (g.S.Source.entered l.source) l.k)) before l.table l.reached)
