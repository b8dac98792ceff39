use Rattle.std.proofs.Common.{◌+◌, take, refl}
use Rattle.std.proofs.lemmas.List.{take_more}
use Rattle.finder.specs.Meaning.{Heard}
use Rattle.finder.proofs.Hearing.{heard_nothing, heard_more}
use Rattle.bench_export.proofs.ChecksumLaws.{checksum-more}
use Rattle.bench_export.proofs.checksum.checksum.Goals as goal

pub loop-i-init : goal.loop-i-init
loop-i-init g c =
    ((0, heard_nothing g.F.Finder c.args.finder.now c.rest.new.self (λ k within. (g.F.Finder.sized c.rest.new.self k within).0) c.rest.ensures), refl)

pub loop-i-preserved : goal.loop-i-preserved
loop-i-preserved g c =
    let s = c.rest.new.self in
    let i = c.loop-i.i in
    let image = c.args.image.now in
    let inv = c.loop-i.invariant in
    let more = take_more image i 0 c.loop-i-test.true in
    let heard : Heard g.F.Finder s (take (i + 1) image) c.take.new.self c.take.result =
    rw more (heard_more g.F.Finder s c.loop-i.finder c.take.new.self (take i image) _ inv.0.0 c.take.result inv.0.1 c.take.ensures) in (
      (c.take.result, heard),
      checksum-more (g.F.Finder.words s) image i c.loop-i.sum c.take.result c.join-sum.result inv.1 heard.tells c.join-sum.ensures,
    )
