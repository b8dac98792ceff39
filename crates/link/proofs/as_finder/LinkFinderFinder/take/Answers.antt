use Rattle.std.proofs.Common.{◌<◌, List, sym, refl, ap, ◌∙◌, subst}
use Rattle.finder.specs.Words.{half_read}
use Rattle.nodes.specs.Nodes.{string, strings}
use Rattle.nodes.proofs.Meaning.{half_read-step, suffix_mask-is}
use Rattle.link.specs.Meaning.{words_in, string_at}
use Rattle.link.specs.Table.{node_at}
use Rattle.link.specs.declared.node.Node.{Node}
use Rattle.link.proofs.TableLaws.{right_tree, table_mask}
use Rattle.link.proofs.as_finder.LinkFinderFinder.take.Goals as goal

pub invariant_of-self : goal.invariant_of-self
invariant_of-self c =
    let f = c.args.self.now in
    record { right = f.right; rooted = f.rooted; within = subst (λ n. c.next_node-self.result < n) (sym (right_tree (words_in f) f.table.now f.right).size) c.next_node-self.ensures.0 }

pub returns : goal.returns
returns c =
    let f = c.args.self.now in
    let ws = words_in f in
    let r = c.next_node-self.result in
    let leads = c.next_node-self.ensures in
    record {
      kept = refl;
      half = ap (half_read ws) leads.1 ∙ half_read-step ws (string_at f) c.args.b;
      tells = ap (λ (t : List Node). (node_at t r).mask) f.right ∙ table_mask ws r leads.0 ∙ suffix_mask-is ws (string (strings ws) r);
    }
