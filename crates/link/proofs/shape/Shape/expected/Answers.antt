use Rattle.std.proofs.Common.{suc, ◌-◌, take, arith}
use Rattle.finder.specs.Words.{word}
use Rattle.nodes.specs.Nodes.{is_child}
use Rattle.link.specs.Shaping.{its_words}
use Rattle.link.specs.Shape.{base_of}
use Rattle.link.proofs.Entries.{back_small, entry_made, lowest-small}
use Rattle.link.proofs.shape.Shape.expected.Goals as goal

pub overflow_cast-result-2 : goal.overflow_cast-result-2
overflow_cast-result-2 c = omega (arith, lowest-small c.args.self.now.words.now (is_child (take c.args.depth (word (its_words c.args.self.now) c.args.k))) 0)

pub overflow_cast-result-3 : goal.overflow_cast-result-3
overflow_cast-result-3 c =
    let ws = its_words c.args.self.now in
    omega (arith, lowest-small c.args.self.now.words.now (is_child (take (c.args.depth - 1) (word ws c.args.k))) (base_of ws (suc c.args.k)))

pub overflow_cast-result-4 : goal.overflow_cast-result-4
overflow_cast-result-4 c = omega (arith, back_small c.args.self.now.words.now (take c.args.depth c.word.result.now))

pub returns : goal.returns
returns c =
    entry_made (its_words c.args.self.now) c.args.k c.args.depth c.requires c.word.result.now c.word.ensures _ _ _ _ c.first_child.ensures c.branch-self.ensures c.back_of.ensures c.mask_of.ensures
