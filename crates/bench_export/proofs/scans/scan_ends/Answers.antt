use Rattle.std.proofs.Common.{length, sym, ap, ◌∙◌, arith, rules}
use Rattle.std.proofs.lemmas.List.{length-drop}
use Rattle.entry.proofs.Finding.{scanning_none}
use Rattle.bench_export.proofs.Scanned.{accepted, scans_all, scans_more, scans_none}
use Rattle.bench_export.proofs.scans.scan_ends.Goals as goal

pub returns-then-is_err : goal.returns-then-is_err
returns-then-is_err g c = scans_none g.F.Finder c.args.list.now c.args.image.now c.args.finder c.new-scan.result c.open.new.self c.open.result (sym c.is_err.ensures.value ∙ c.if-is_err.true) c.new-scan.ensures c.open.ensures

pub loop-chunk-init : goal.loop-chunk-init
loop-chunk-init g c = (
  search rules,
  tt,
  scanning_none g.F.Finder c.args.list.now c.args.image.now c.args.finder c.new-scan.result c.open.new.self c.open.result c.new-scan.ensures c.open.ensures (accepted c.open.result (sym c.is_err.ensures.value ∙ c.if-is_err.false)),
  search rules,
)

pub unwrap-taken-requires : goal.unwrap-taken-requires
unwrap-taken-requires g c =
    let inv = c.loop-chunk.invariant in
    let left = inv.3 ∙ c.in-Some.ensures.steps.1.0 in
    (scans_more g.F.Finder c.args.list.now c.args.image.now c.loop-chunk.taken _ _ c.loop-chunk.scan c.offer.new.self c.offer.result inv.2 left c.offer.ensures).0

pub loop-chunk-preserved : goal.loop-chunk-preserved
loop-chunk-preserved g c =
    let inv = c.loop-chunk.invariant in
    let left = inv.3 ∙ c.in-Some.ensures.steps.1.0 in
    let more = (scans_more g.F.Finder c.args.list.now c.args.image.now c.loop-chunk.taken _ _ c.loop-chunk.scan c.offer.new.self c.offer.result inv.2 left c.offer.ensures).1 _ c.unwrap-taken.ensures in
    (search rules, tt, more.0, more.1)

pub returns : goal.returns
returns g c =
    let inv = c.loop-chunk.invariant in
    let none = c.in-None.ensures.steps.1.0 in
    let left = sym (length-drop c.loop-chunk.taken c.args.image.now) ∙ ap length inv.3 ∙ none in
    scans_all g.F.Finder c.args.list.now c.args.image.now c.args.finder c.new-scan.result c.open.new.self c.loop-chunk.scan c.open.result c.loop-chunk.taken c.ends_sum.result c.new-scan.ensures c.open.ensures (accepted c.open.result (sym c.is_err.ensures.value ∙ c.if-is_err.false)) inv.2 (omega (arith, left)) c.ends_sum.ensures
