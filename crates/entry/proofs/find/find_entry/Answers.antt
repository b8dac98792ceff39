use Rattle.entry.proofs.Finding.{Scanning, finds, not_refused, ok_same, scanning_all, scanning_more, scanning_none, scanning_opened}
use Rattle.entry.proofs.find.find_entry.Goals as goal
use Rattle.entry.specs.Finding.{Finds, whole}
use Rattle.landmark.specs.Records.{or_else}
use Rattle.scan.specs.History.{open_on}
use Rattle.scan.specs.Rules.{Line, facts, issue_refusal, refusal}
use Rattle.std.proofs.lemmas.Result.{err_from_is_err_and}
use Rattle.std.proofs.Common.{None, Err, sym, ap, ◌∙◌, subst}

pub returns-in_err-open : goal.returns-in_err-open
returns-in_err-open g c =
    let left = err_from_is_err_and c.from_residual.result c.from_residual.ensures.1 in
    let line-is = sym (scanning_opened g.F.Finder c.args.list.now c.args.image.now c.args.finder c.new-scan.result c.open.new.self c.open.result c.new-scan.ensures c.open.ensures) ∙ ap refusal c.in_err-open.was in
    subst (Finds (g.F.Finder.words c.args.finder) c.args.list.now c.args.image.now c.args.landmark) (sym (left.1 ∙ ap Err left.2))
    (ap (λ (x : Line). or_else x (issue_refusal None (facts (open_on (whole c.args.list.now c.args.image.now) c.args.image.now)) c.args.landmark)) line-is)

pub loop-cut-init : goal.loop-cut-init
loop-cut-init g c = scanning_none g.F.Finder c.args.list.now c.args.image.now c.args.finder c.new-scan.result c.open.new.self c.open.result c.new-scan.ensures c.open.ensures c.in_ok-open.was

pub returns-in_err-taken : goal.returns-in_err-taken
returns-in_err-taken g c =
    let more = scanning_more g.F.Finder c.args.list.now c.args.image.now c.loop-cut.taken _ c.block_to.result.now c.loop-cut.scan c.offer.new.self c.offer.result c.loop-cut.invariant c.block_to.ensures c.offer.ensures in
    not_refused more.1 c.in_err-taken.was

pub loop-cut-preserved : goal.loop-cut-preserved
loop-cut-preserved g c =
    let more = scanning_more g.F.Finder c.args.list.now c.args.image.now c.loop-cut.taken _ c.block_to.result.now c.loop-cut.scan c.offer.new.self c.offer.result c.loop-cut.invariant c.block_to.ensures c.offer.ensures in
    subst (λ n. Scanning g.F.Finder c.args.list.now c.args.image.now n c.offer.new.self) (ok_same (sym more.1 ∙ c.in_ok-taken.was)) more.3

pub returns-in_err-offer : goal.returns-in_err-offer
returns-in_err-offer g c =
    let more = scanning_more g.F.Finder c.args.list.now c.args.image.now c.loop-cut.taken _ c.block_to-2.result.now c.loop-cut.scan c.offer-2.new.self c.offer-2.result c.loop-cut.invariant c.block_to-2.ensures c.offer-2.ensures in
    not_refused more.1 c.in_err-offer.was

pub returns : goal.returns
returns g c =
    let all = scanning_all g.F.Finder c.args.list.now c.args.image.now c.loop-cut.taken c.block_to-2.result.now c.loop-cut.scan c.offer-2.new.self c.offer-2.result c.loop-cut.invariant c.block_to-2.ensures c.offer-2.ensures in
    let opens = sym (scanning_opened g.F.Finder c.args.list.now c.args.image.now c.args.finder c.new-scan.result c.open.new.self c.open.result c.new-scan.ensures c.open.ensures) ∙ ap refusal c.in_ok-open.was in
    finds g.F.Finder c.args.list.now c.args.image.now c.args.finder c.args.landmark c.offer-2.new.self c.enter.new.scan c.enter.result opens all c.enter.ensures
