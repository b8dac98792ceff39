use Rattle.std.proofs.Common.{◌≡◌, length, ap, ◌∙◌, arith}
use Rattle.finder.specs.Words.{most_words}
use Rattle.finder.proofs.Joining.{both-took, joined-mask_or, joined-mask_full}
use Rattle.finder.proofs.pair.PairFinder.take.Goals as goal

pub returns-then-before-ge-MOST_WORDS : goal.returns-then-before-ge-MOST_WORDS
returns-then-before-ge-MOST_WORDS g c =
    let (kept, half) = both-took (g.A.Finder.paired c.args.self.now.left) c.take-left.ensures c.take-right.ensures in
    let one = g.A.Finder.paired c.take-left.new.self ∙ ap length c.take-left.ensures.kept in
    let full : length (g.A.Finder.words c.args.self.now.left) ≡ most_words = omega (arith, g.A.Finder.few c.args.self.now.left) in
    record { kept = kept; half = half; tells = c.take-left.ensures.tells ∙ joined-mask_full _ _ (g.B.Finder.words c.args.self.now.right) (g.B.Finder.halves c.take-right.new.self) one full }

pub returns : goal.returns
returns g c =
    let (kept, half) = both-took (g.A.Finder.paired c.args.self.now.left) c.take-left.ensures c.take-right.ensures in
    let one = g.A.Finder.paired c.take-left.new.self ∙ ap length c.take-left.ensures.kept in
    let bits = joined-mask_or _ _ (g.B.Finder.words c.args.self.now.right) (g.B.Finder.halves c.take-right.new.self) one (g.A.Finder.few c.args.self.now.left) in
    record { kept = kept; half = half; tells = simp (c.take-left.ensures.tells, c.take-right.ensures.tells, c.count-before.ensures) bits }
