use Rattle.std.proofs.Common.{drop, map}
use Rattle.words.specs.Index.{indexed}
use Rattle.shift.proofs.Edging.{Edged}
use Rattle.shift.proofs.narrow.Narrow.edges.Given as goal

-- the bits of the words so far are gathered
abbrev pub invariant-loop-word : goal.invariant-loop-word
invariant-loop-word l = Edged (indexed l.self.index) l.firsts l.lasts l.p (map (λ s. s.now) (drop l.word-index l.word-items))
