use Rattle.order_client.proofs.Entering.{accepted, entered, refused}
use Rattle.order_client.proofs.enter.Goals as goal
use Rattle.order_client.specs.Entering.{Entered}
use Rattle.std.proofs.lemmas.Result.{err_from_is_err_and}
use Rattle.std.proofs.Common.{Err, sym, ap, ◌∙◌, subst}

pub returns-in_err-order : goal.returns-in_err-order
returns-in_err-order g c =
    let left = err_from_is_err_and c.from_residual.result c.from_residual.ensures.1 in
    subst (λ r. Entered c.args.scan.now c.args.landmark r c.issue.new.self) (sym (left.1 ∙ ap Err left.2))
    (refused g.F.Finder c.args.scan.now c.issue.new.self c.args.landmark c.issue.result c.issue.ensures _ c.in_err-order.was)

pub unwrap-requires : goal.unwrap-requires
unwrap-requires g c =
    accepted g.F.Finder c.args.scan.now c.issue.new.self c.args.landmark c.issue.result c.issue.ensures
    c.carry_out.new.self c.in_ok-order.order c.carry_out.result c.in_ok-order.was c.carry_out.ensures

pub returns : goal.returns
returns g c =
    entered g.F.Finder c.args.scan.now c.issue.new.self c.args.landmark c.issue.result c.issue.ensures
    c.carry_out.new.self c.in_ok-order.order c.carry_out.result c.in_ok-order.was c.carry_out.ensures _ c.unwrap.ensures
