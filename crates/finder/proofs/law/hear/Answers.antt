use Rattle.std.proofs.Common.{take}
use Rattle.std.proofs.lemmas.List.{take_more, take_all}
use Rattle.finder.proofs.Hearing.{heard_nothing, heard_more, heard_rested, heard_follows}
use Rattle.finder.proofs.law.hear.Goals as goal

pub loop-b-init : goal.loop-b-init
loop-b-init g c = heard_nothing g.F.Finder c.args.finder.now c.rest.new.self (λ k within. (g.F.Finder.sized c.rest.new.self k within).0) c.rest.ensures

pub loop-b-preserved : goal.loop-b-preserved
loop-b-preserved g c =
    let more = take_more c.args.bytes.now c.loop-b.b-index 0 c.loop-b-test.true in
    rw more (heard_more g.F.Finder c.rest.new.self c.loop-b.finder c.take-answer.new.self (take c.loop-b.b-index c.args.bytes.now) _ c.loop-b.answer c.take-answer.result c.loop-b.invariant c.take-answer.ensures)

pub returns : goal.returns
returns g c =
    let all = take_all c.loop-b.b-index c.args.bytes.now c.loop-b-test.false in
    let heard = heard_rested g.F.Finder c.args.finder.now c.rest.new.self c.loop-b.finder c.args.bytes.now c.loop-b.answer c.rest.ensures (rw all at c.loop-b.invariant) in
    record { heard = heard; law = heard_follows g.F.Finder c.args.finder.now c.loop-b.finder c.args.bytes.now c.loop-b.answer heard }
