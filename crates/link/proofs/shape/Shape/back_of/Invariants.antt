use Rattle.nodes.specs.Nodes.{strings}
use Rattle.link.specs.Shaping.{its_words}
use Rattle.link.proofs.Backing.{LeftFrom}
use Rattle.link.proofs.shape.Shape.back_of.Given as goal

-- no word begins with a longer suffix
abbrev pub invariant-loop-from : goal.invariant-loop-from
invariant-loop-from l = LeftFrom (strings (its_words l.self)) l.string l.from
