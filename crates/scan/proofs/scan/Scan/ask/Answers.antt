use Rattle.std.specs.Option.{option_copied}
use Rattle.std.specs.Result.{result_ok}
use Rattle.plan.specs.Seats.{roles_of}
use Rattle.scan.specs.Rules.{ask_refusal, end_at}
use Rattle.scan.proofs.Asking.{answered, end_by, length-roles, may_ask_by, no_such_by, own_open, refused-by}
use Rattle.scan.proofs.Calling.{asked_so}
use Rattle.scan.proofs.scan.Scan.ask.Goals as goal
use Rattle.std.proofs.Common.{◌<◌, ◌≤◌, length, sym, ap, ◌∙◌, arith}

pub returns-then-landmark-landmarks : goal.returns-then-landmark-landmarks
returns-then-landmark-landmarks g c =
    let s = c.args.self.now in
    let p = c.in_ok-progress.progress.now in
    let k = c.args.landmark in
    let size = length-roles p.plan in
    let past : length (roles_of p.plan) ≤ k = omega arith in
    let own = own_open s p (sym c.as_ref.ensures.value ∙ ap option_copied (c.ok_or.ensures.ok_part ∙ ap result_ok c.in_ok-progress.was)) in
    rw c.at-then-landmark-landmarks.ensures (asked_so g.F.Finder s k _ (refused-by _ _ _ s (ap (λ x. ask_refusal x k) own ∙ no_such_by p k past)))

pub returns : goal.returns
returns g c =
    let s = c.args.self.now in
    let p = c.in_ok-progress.progress.now in
    let k = c.args.landmark in
    let size = length-roles p.plan in
    let below : k < length (roles_of p.plan) = omega arith in
    let own = own_open s p (sym c.as_ref.ensures.value ∙ ap option_copied (c.ok_or.ensures.ok_part ∙ ap result_ok c.in_ok-progress.was)) in
    asked_so g.F.Finder s k _ (answered _ _ _ s s (ap (λ x. ask_refusal x k) own ∙ may_ask_by p k below) (c.end_of.ensures ∙ sym (end_by p k below) ∙ ap (λ x. end_at x k) (sym own)))
