use Rattle.std.proofs.Common.{ℕ, List, [], ◌∷◌, ◌++◌, sym, refl, subst, arith}
use Rattle.nodes.specs.Nodes.{strings}
use Rattle.link.specs.Entering.{Reaches}
use Rattle.link.specs.declared.node.Node.{Node}
use Rattle.link.proofs.Adding.{Relinked, with_child}
use Rattle.link.proofs.Reaching.{first_link, last_within, next-link, reaches_chained, reaches_last, reaches_new}
use Rattle.link.proofs.enter.add_child.Goals as goal
use Rattle.link.proofs.enter.add_child.Goals.{Joined-last_child, in-None, in-Some}

pub last_child-requires-clause-chained : goal.last_child-requires-clause-chained
last_child-requires-clause-chained c = reaches_chained c.requires.us c.requires.v _ _ c.args.from c.requires.reaches

pub offset_bounds-table-last : goal.offset_bounds-table-last
offset_bounds-table-last c = omega (arith, last_within c.requires.us c.requires.v _ _ c.args.from c.requires.reaches c.in-Some.last c.in-Some.ensures)

pub bounds-table-last : goal.bounds-table-last
bounds-table-last c = last_within c.requires.us c.requires.v _ _ c.args.from c.requires.reaches c.in-Some.last c.in-Some.ensures

-- the new child is linked, whichever way
linked : (c : Joined-last_child) (us : List (List ℕ)) (v : List ℕ) (before : List Node) → Reaches us v before c.args.table.now c.args.from
    → Relinked (strings (us ++ (v ∷ []))) (with_child (strings (us ++ (v ∷ []))) c.args.from.node c.args.symbol) c.args.table.now c.match-last_child.table
linked c us v before reaches =
    let t = c.args.table.now in
    let r = c.args.from in
    let b = c.args.symbol in
    let ss = strings (us ++ (v ∷ [])) in
    let Links = Relinked ss (with_child ss r.node b) t in
    elim c.match-last_child.branch [
      | in-None w ↦ subst Links (sym w.table-is) (first_link us v before t r reaches b 0 (reaches_last us v before t r reaches _ w.in-None.ensures) c.requires.room refl)
      | in-Some w ↦ let last = reaches_last us v before t r reaches _ w.in-Some.ensures in subst Links (sym w.table-is) (next-link us v before t r reaches b w.in-Some.last last.1 c.requires.room last.0)
    ]

pub returns : goal.returns
returns c us v before reaches new =
    reaches_new us v before _ c.args.from reaches c.args.symbol _ (linked c us v before reaches) (omega (arith, c.requires.room, c.match-last_child.auto.table)) new
