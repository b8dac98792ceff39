use Rattle.std.proofs.Common.{arith}
use Rattle.link.specs.Shaping.{its_words}
use Rattle.link.proofs.Making.{makes_node, nodes_few}
use Rattle.link.proofs.shape.Shape.number.Goals as goal

pub overflow_add-result : goal.overflow_add-result
overflow_add-result c =
    let s = c.args.self.now in
    grind (arith, makes_node (its_words s) c.args.k c.args.depth c.requires, nodes_few s.words.now)
