use Rattle.scan.proofs.Offering.{offered_refused, offered_taken, one_more, overrun}
use Rattle.scan.proofs.scan.Scan.offer.Goals as goal
use Rattle.scan.specs.Taking.{NextBytes}
use Rattle.std.proofs.lemmas.List.{take_all, take_more}
use Rattle.std.proofs.Common.{subst}

pub returns-then-block-progress : goal.returns-then-block-progress
returns-then-block-progress g c =
    let s = c.args.self.now in
    rw (c.at-then-block-progress.ensures, ← c.in-Some.is)
    (offered_refused g.F.Finder s c.args.place c.args.block.now _ (overrun g.F.Finder s c.args.place c.args.block.now c.in-Some.progress c.in-Some.is c.if-place-progress.false c.if-block-progress.true))

pub loop-b-preserved : goal.loop-b-preserved
loop-b-preserved g c =
    rw (take_more c.args.block.now c.loop-b.b-index 0 c.loop-b-test.true)
    (one_more g.F.Finder c.args.self.now.finder c.in-Some.progress _ c.loop-b.finder c.loop-b.progress _ c.take.new.finder c.take.new.self c.loop-b.invariant c.take.ensures)

pub returns : goal.returns
returns g c =
    let s = c.args.self.now in
    let block = c.args.block.now in
    offered_taken g.F.Finder s c.args.place block c.in-Some.progress c.in-Some.is c.if-place-progress.false c.loop-b.finder c.loop-b.progress c.if-block-progress.false
    (subst (λ xs. NextBytes g.F.Finder s.finder c.in-Some.progress xs c.loop-b.finder c.loop-b.progress) (take_all c.loop-b.b-index block c.loop-b-test.false) c.loop-b.invariant)
