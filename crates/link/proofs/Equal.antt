-- When two entries are equal.
use Rattle.std.proofs.Common.{◌≡◌, Bool, not, Decides, arith, rules}
use Rattle.std.proofs.lemmas.Bool.Decides.{nat_tests}
use Rattle.link.specs.contracts.node.NodePartialEq.TheImpl.{ghosts}
use Rattle.link.specs.declared.node.Node.{Node}

-- `==` tells whether they are
decides_equal : (a b : Node) (r : Bool) → (r ≡ ghosts.eq a b) → Decides r (a ≡ b)
decides_equal a b r is = search rules

-- and `!=` whether they are not
pub decides_other : (a b : Node) (r : Bool) → r ≡ not (ghosts.eq a b) → Decides r (a ≡ b → ⊥)
decides_other a b r is = grind (arith, nat_tests)
