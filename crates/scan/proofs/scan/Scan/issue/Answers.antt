use Rattle.scan.proofs.Calling.{issued_entry, issued_so, passed_on}
use Rattle.scan.proofs.scan.Scan.issue.Goals as goal
use Rattle.std.proofs.lemmas.Result.{err_from_is_err_and}
use Rattle.std.proofs.Common.{Err, ap, ◌∙◌}

pub returns-in_err-entry : goal.returns-in_err-entry
returns-in_err-entry g c =
    let left = err_from_is_err_and c.from_residual.result c.from_residual.ensures.1 in
    issued_so g.F.Finder c.args.self.now c.args.landmark _ _
    (passed_on _ _ c.entry_of.result _ _ _ _ c.in_err-entry.was c.entry_of.ensures (left.1 ∙ ap Err left.2))

pub returns : goal.returns
returns g c = issued_entry g.F.Finder c.args.self.now c.args.landmark _ c.entry_of.result c.in_ok-entry.was c.entry_of.ensures
