use Rattle.std.proofs.Common.{arith}
use Rattle.link.proofs.Rooting.{holds-root}
use Rattle.link.proofs.enter.enter_words.Goals as goal

pub loop-k-init : goal.loop-k-init
loop-k-init g c = holds-root c.args.table.now (omega arith)

pub loop-k-preserved : goal.loop-k-preserved
loop-k-preserved g c = c.enter_word-count.ensures _ c.loop-k.invariant
