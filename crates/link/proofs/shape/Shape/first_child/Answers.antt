use Rattle.std.proofs.Common.{sym, ap, ◌∙◌, add-one, arith}
use Rattle.link.specs.Shape.{made_by}
use Rattle.link.specs.Shaping.{its_words}
use Rattle.link.proofs.Branching.{first_longer, first_whole}
use Rattle.link.proofs.shape.Shape.first_child.Goals as goal

pub returns-then-depth-length_of : goal.returns-then-depth-length_of
returns-then-depth-length_of c =
    let ws = its_words c.args.self.now in
    c.number.ensures ∙ ap (made_by ws c.args.k) (add-one c.args.depth) ∙ sym (first_longer ws c.args.k c.args.depth c.requires (omega arith))

pub returns-else-depth-length_of : goal.returns-else-depth-length_of
returns-else-depth-length_of c = c.branch-self.ensures ∙ sym (first_whole (its_words c.args.self.now) c.args.k c.args.depth c.requires (omega arith))
