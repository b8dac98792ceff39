use Rattle.std.proofs.Common.{◌≡◌, length}
use Rattle.words.specs.Index.{indexed}
use Rattle.link.specs.Shape.{PartsOf, base_of}
use Rattle.link.proofs.shape.Shape.of.Given as goal

-- the words before word k have their parts, and make so many nodes
abbrev pub invariant-loop-k : goal.invariant-loop-k
invariant-loop-k l = record { parts : PartsOf (indexed l.words) l.parts.items; count : length l.parts.items ≡ l.k; nodes : l.nodes ≡ base_of (indexed l.words) l.k }
