use Rattle.link.specs.Comparing.{RightBefore}
use Rattle.link.specs.Shape.{base_of}
use Rattle.link.specs.Shaping.{its_words}
use Rattle.link.proofs.compare.compare.Given as goal

-- the entries of the root and of the nodes that the words before word k make are right
abbrev pub invariant-loop-k : goal.invariant-loop-k
invariant-loop-k l = RightBefore (its_words l.shape) l.table (base_of (its_words l.shape) l.k)
