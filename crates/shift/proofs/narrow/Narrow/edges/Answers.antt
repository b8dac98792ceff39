use Rattle.std.proofs.Common.{[], arith}
use Rattle.words.specs.Sizes.{slices-sized}
use Rattle.shift.proofs.Edging.{edged_room, edged_more}
use Rattle.shift.proofs.narrow.Narrow.edges.Goals as goal

pub overflow_shl-firsts : goal.overflow_shl-firsts
overflow_shl-firsts c = grind (arith, edged_room _ _ _ _ _ _ (record { ref_ptr = (0, 0); now = [] }) c.loop-word-test.true c.loop-word.invariant, slices-sized c.args.self.now.index, c.args.self.now.narrow)

pub overflow_sub-lasts : goal.overflow_sub-lasts
overflow_sub-lasts c = grind (arith, slices-sized c.args.self.now.index)

pub loop-word-preserved : goal.loop-word-preserved
loop-word-preserved c = edged_more _ _ _ _ _ _ _ c.loop-word-test.true c.loop-word.invariant c.args.self.now.narrow (grind (arith, slices-sized c.args.self.now.index))
