use Rattle.std.proofs.Common.{◌+◌}
use Rattle.link.specs.Shaping.{its_words}
use Rattle.link.specs.Comparing.{RightBefore}
use Rattle.link.specs.Shape.{made_by}
use Rattle.link.proofs.shape.Shape.wrong_entry.Given as goal

-- the entries before this one are right
abbrev pub invariant-loop-parent : goal.invariant-loop-parent
invariant-loop-parent l = RightBefore (its_words l.self) l.table (made_by (its_words l.self) l.k (l.parent + 1))
