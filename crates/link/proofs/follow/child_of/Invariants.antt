use Rattle.std.proofs.Common.{◌≡◌, ◌<◌, ◌==◌, find, length}
use Rattle.std.specs.Option.{option_map}
use Rattle.link.specs.Children.{child_with, siblings}
use Rattle.link.proofs.Following.{left}
use Rattle.link.proofs.follow.child_of.Given as goal

-- no child before this one has the byte
abbrev pub invariant-loop-child : goal.invariant-loop-child
invariant-loop-child l = record { within : l.child < length l.table; rest : child_with l.table l.at l.byte ≡ option_map (λ p. p.0) (find (λ p. p.1 == l.byte) (siblings l.table (length l.table) l.child)) }

abbrev pub decreases-loop-child : goal.decreases-loop-child
decreases-loop-child l = left (length l.table) l.child
