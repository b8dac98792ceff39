use Rattle.std.proofs.Common.{arith}
use Rattle.finder.specs.Joined.{length-joined}
use Rattle.finder.proofs.pair.PairFinder.count.Goals as goal

pub returns : goal.returns
returns g c = omega (arith, c.min.ensures, length-joined (g.A.Finder.words c.args.self.now.left) (g.B.Finder.words c.args.self.now.right))
