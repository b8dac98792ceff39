use Rattle.std.proofs.Common.{ℕ, refl, ap, ◌∙◌, subst, arith, length-set}
use Rattle.link.specs.Walking.{children_left}
use Rattle.link.proofs.RootRow.{RowBefore, before_all, before_first, before_more}
use Rattle.link.proofs.Walk.{tree_chained}
use Rattle.link.proofs.root.root_row.Goals as goal

pub of-child-items-requires-clause-chained : goal.of-child-items-requires-clause-chained
of-child-items-requires-clause-chained g c = tree_chained c.args.table.now g.ss c.requires

pub loop-child-init : goal.loop-child-init
loop-child-init g c = record { size = refl; upto = before_first c.args.table.now g.ss c.requires 256 _ (ap children_left c.into_iter-child-iterator.ensures.into_iter_gives ∙ c.of-child-items.ensures) }

pub loop-child-preserved : goal.loop-child-preserved
loop-child-preserved g c =
    let t = c.args.table.now in
    let p : ℕ × ℕ = (c.in-Some.child, c.in-Some.byte) in
    record {
      size = length-set _ _ _ ∙ c.loop-child.invariant.size;
      upto = before_more t g.ss c.requires c.loop-child.row p (children_left c.next.new.self) c.loop-child.invariant.size (omega arith) (subst (RowBefore t g.ss c.loop-child.row) c.in-Some.ensures.steps c.loop-child.invariant.upto);
    }

pub returns : goal.returns
returns g c = before_all c.args.table.now g.ss c.requires c.loop-child.row _ c.in-None.ensures.steps.0 c.loop-child.invariant.upto
