use Rattle.std.proofs.Common.{◌<◌, List, length, get_or, sym, subst}
use Rattle.nodes.specs.Nodes.{string, strings}
use Rattle.link.specs.Meaning.{words_in}
use Rattle.link.specs.Table.{Backed, Leads, Tree}
use Rattle.link.specs.declared.node.Node.{Node}
use Rattle.link.proofs.TableLaws.{right_tree, table_backed}
use Rattle.link.proofs.link.LinkFinder.next_node.Goals as goal

pub follow_to_top-requires : goal.follow_to_top-requires
follow_to_top-requires g c =
    let f = c.args.self.now in
    let ws = words_in f in
    let t = f.table.now in
    let backed = subst (λ (u : List Node). Backed u (strings ws) (length (string (strings ws) f.at))) (sym f.right) (table_backed ws (length (string (strings ws) f.at))) in
    subst (λ ss. Tree t ss × (Backed t ss (length (string ss f.at)) × ((f.at < length t) × Leads ss 0 c.args.byte (get_or f.row c.args.byte 0)))) (sym c.requires) (right_tree ws t f.right, (backed, (f.within, f.rooted c.args.byte)))
