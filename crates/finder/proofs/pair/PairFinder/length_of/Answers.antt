use Rattle.std.proofs.Common.{arith}
use Rattle.finder.specs.Joined.{joined-left, joined-right, joined-past}
use Rattle.finder.proofs.pair.PairFinder.length_of.Goals as goal

pub returns-then-k-ge-MOST_WORDS : goal.returns-then-k-ge-MOST_WORDS
returns-then-k-ge-MOST_WORDS g c = rw (joined-past (g.A.Finder.words c.args.self.now.left) (g.B.Finder.words c.args.self.now.right) c.args.k (omega arith))

pub returns-then-k-before : goal.returns-then-k-before
returns-then-k-before g c =
    rw (joined-left (g.A.Finder.words c.args.self.now.left) (g.B.Finder.words c.args.self.now.right) c.args.k (omega arith) (omega arith))
    c.length_of.ensures

pub returns-else-k-before : goal.returns-else-k-before
returns-else-k-before g c =
    rw (joined-right (g.A.Finder.words c.args.self.now.left) (g.B.Finder.words c.args.self.now.right) c.args.k (omega arith) (omega arith), ← c.count-before.ensures)
    c.length_of-else-k-before.ensures
