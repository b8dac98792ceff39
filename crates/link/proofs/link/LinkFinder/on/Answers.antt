use Rattle.std.proofs.Common.{length, sym, ap, subst, arith}
use Rattle.nodes.proofs.Strings.{rooted_strings}
use Rattle.words.specs.Index.{indexed}
use Rattle.link.specs.Table.{RootRow, Tree}
use Rattle.link.proofs.TableLaws.{length-table, right_tree}
use Rattle.link.proofs.link.LinkFinder.on.Goals as goal

pub root_row-requires : goal.root_row-requires
root_row-requires g c = let (right, strings) = c.requires in subst (Tree c.args.table.now) (sym strings) (right_tree (indexed c.args.words) c.args.table.now right)

pub invariant_of-result : goal.invariant_of-result
invariant_of-result g c =
    let (right, strings) = c.requires in
    let ws = indexed c.args.words in
    record {
      right = right;
      rooted = subst (λ ss. RootRow ss c.root_row.result) strings c.root_row.ensures;
      within = omega (arith, (rooted_strings ws).some, length-table ws, ap length right);
    }
