use Rattle.std.proofs.Common.{ℕ, ◌==◌, Bool, Some, find, length, ap, ◌∙◌, arith}
use Rattle.std.specs.Option.{option_map}
use Rattle.std.proofs.lemmas.Bool.{cond-false, ne_eqb}
use Rattle.link.specs.Children.{siblings}
use Rattle.link.specs.Table.{node_at}
use Rattle.link.proofs.Walk.{siblings-more}
use Rattle.link.proofs.follow.child_of.Goals as goal

pub loop-child-preserved : goal.loop-child-preserved
loop-child-preserved c =
    let t = c.args.table.now in
    let child = c.loop-child.child in
    let test : ℕ × ℕ → Bool = λ p. p.1 == c.args.byte in
    let rest = siblings t (length t) (node_at t child).next in
    record {
      within = c.requires.chained.next child (omega arith) c.loop-child.invariant.within;
      rest = c.loop-child.invariant.rest ∙ ap (λ xs. option_map (λ p. p.0) (find test xs)) (siblings-more t c.requires.chained child (omega arith) c.loop-child.invariant.within)
          ∙ ap (option_map (λ p. p.0)) (cond-false _ (Some (child, (node_at t child).byte)) (find test rest) (ne_eqb _ _ c.if-table-child.false));
    }
