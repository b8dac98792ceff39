use Rattle.std.proofs.Common.{◌≡◌, ◌<◌, length, take, refl, subst, ◌∙◌, arith}
use Rattle.std.proofs.lemmas.List.{get_or-take, get_or_default, length-take-le}
use Rattle.calls.proofs.Running.{running_all, running_more, running_none}
use Rattle.calls.proofs.run.run_calls.Goals as goal
use Rattle.calls.specs.Rows.{RanRow}

pub loop-i-init : goal.loop-i-init
loop-i-init g c = running_none g.F.Finder c.new.result.finder c.args.calls.now c.args.answers.now _ (record { finder = refl; idle = c.new.ensures.idle; free = c.new.ensures.free })

pub loop-i-preserved : goal.loop-i-preserved
loop-i-preserved g c =
    let calls = c.args.calls.now in
    let i = c.loop-i.i in
    let room = c.min-room.result in
    let size : length (take room calls) ≡ room = length-take-le room calls (omega arith) in
    let below : i < room = omega arith in
    let in-calls : i < length calls = omega arith in
    running_more g.F.Finder c.new.result.finder calls c.args.answers.now c.loop-i.answers i c.loop-i.holder _ c.make.result c.make.new.self
    in-calls (omega arith) (get_or-take room calls i _ below ∙ get_or_default calls i _ _ in-calls) c.loop-i.invariant c.make.ensures

pub returns : goal.returns
returns g c =
    let room = c.min-room.result in
    let size : length (take room c.args.calls.now) ≡ room = length-take-le room c.args.calls.now (omega arith) in
    subst (λ f. RanRow g.F.Finder f c.args.calls.now c.args.answers.now c.loop-i.answers c.loop-i.holder.order c.loop-i.holder.scan) c.new.ensures.finder
    (running_all g.F.Finder c.new.result.finder c.args.calls.now c.args.answers.now c.loop-i.answers c.loop-i.i c.loop-i.holder (omega arith) c.loop-i.invariant)
