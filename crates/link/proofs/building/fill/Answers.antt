use Rattle.std.proofs.Common.{◌++◌, length, drop, sym, ap, ◌∙◌, subst, arith}
use Rattle.nodes.specs.Nodes.{strings}
use Rattle.words.specs.Sizes.{indexed-sized}
use Rattle.link.specs.Backing.{AllSized}
use Rattle.link.specs.Table.{table_of}
use Rattle.link.proofs.Built.{drop-same}
use Rattle.link.proofs.Making.{nodes_few}
use Rattle.link.proofs.building.fill.Goals as goal

pub link_back-requires : goal.link_back-requires
link_back-requires g c =
    let w = c.args.words.now in
    let held = c.enter_words-count.ensures in
    let (entered, room) = c.requires in
    (subst AllSized (sym entered) (indexed-sized w), (rw entered held.entered, omega (arith, held.entered.tree.size, nodes_few w)))

pub returns : goal.returns
returns g c =
    let n = c.enter_words-count.result in
    let u = c.enter_words-count.new.table in
    let held = c.enter_words-count.ensures in
    let (entered, room) = c.requires in
    record {
      count = held.size ∙ ap (λ ws. length (strings ws)) (sym entered);
      nodes = ap (λ front. front ++ drop n u) c.link_back.ensures ∙ ap (λ rest. table_of g.ws ++ rest) (drop-same n u c.args.table.now c.enter_words-count.auto.table held.rest);
    }
