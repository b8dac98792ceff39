use Rattle.std.proofs.Common.{length, Err, refl, sym, ap, ◌∙◌, subst, arith}
use Rattle.std.proofs.lemmas.Result.{err_from_is_err_and}
use Rattle.link.specs.Building.{Builds}
use Rattle.link.proofs.Admission.{room, same-refusal}
use Rattle.link.proofs.Making.{bytes_few, sizes-sum}
use Rattle.words.specs.Index.{indexed}
use Rattle.link.proofs.Built.{built}
use Rattle.link.proofs.building.build.Goals as goal

pub fill-requires : goal.fill-requires
fill-requires c = grind (arith, room c.args.list.now (length c.args.table.now) c.of-words.result c.in_ok-admit.ensures c.of-words.ensures, bytes_few c.of-words.result, sizes-sum (indexed c.of-words.result))

pub returns : goal.returns
returns c = built c.args.list.now c.of-words.result c.args.table.now _ _ c.in_ok-admit.ensures c.of-words.ensures c.fill.ensures.count c.fill.ensures.nodes

pub returns-in_err-admit : goal.returns-in_err-admit
returns-in_err-admit c =
    let l = c.args.list.now in
    let t = c.args.table.now in
    let left = err_from_is_err_and c.from_residual.result c.from_residual.ensures.1 in
    subst (Builds l t t) (sym (left.1 ∙ ap Err left.2)) (same-refusal l (length t) c.of-words.result c.of-words.ensures ∙ c.in_err-admit.ensures, refl)
