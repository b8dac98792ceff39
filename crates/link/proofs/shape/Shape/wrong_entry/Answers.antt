use Rattle.std.proofs.Common.{sym, ap, ◌∙◌, arith}
use Rattle.link.specs.Shaping.{its_words}
use Rattle.link.specs.Table.{node_at, table_of}
use Rattle.link.specs.declared.shape.Part.{Part}
use Rattle.link.proofs.Equal.{decides_other}
use Rattle.link.proofs.Making.{base_more, makes_from, makes_node, nodes_few}
use Rattle.link.proofs.shape.Shape.wrong_entry.Goals as goal

pub offset_bounds-table-n : goal.offset_bounds-table-n
offset_bounds-table-n c =
    let ws = its_words c.args.self.now in
    let made = makes_from ws _ c.args.k c.loop-parent.parent c.part-parent.ensures c.requires.inside c.loop-parent.auto.parent (omega arith) in
    omega (arith, c.number-n.ensures, makes_node ws _ _ made, nodes_few c.args.self.now.words.now)

pub bounds-table-n : goal.bounds-table-n
bounds-table-n c =
    let ws = its_words c.args.self.now in
    let made = makes_from ws _ c.args.k c.loop-parent.parent c.part-parent.ensures c.requires.inside c.loop-parent.auto.parent (omega arith) in
    omega (arith, c.number-n.ensures, makes_node ws _ _ made)

pub returns-then-ne : goal.returns-then-ne
returns-then-ne c =
    let ws = its_words c.args.self.now in
    let made = makes_from ws _ c.args.k c.loop-parent.parent c.part-parent.ensures c.requires.inside c.loop-parent.auto.parent (omega arith) in
    let other = (decides_other _ _ _ c.ne.ensures).0 c.if-ne.true in
    record {
      within = omega (arith, c.number-n.ensures, makes_node ws _ _ made);
      before = λ n below. c.loop-parent.invariant n (omega arith);
      wrong = λ right. other (right ∙ ap (node_at (table_of ws)) c.number-n.ensures ∙ sym c.expected.ensures);
    }

pub returns : goal.returns
returns c =
    let share = ap (λ (p : Part). p.shared) c.part-parent.ensures in
    λ n below. c.loop-parent.invariant n (omega (arith, base_more (its_words c.args.self.now) c.args.k c.requires.inside))
