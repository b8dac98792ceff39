use Rattle.entry.proofs.Cutting.{cut_block}
use Rattle.entry.proofs.blocks.block_to.Goals as goal

pub returns : goal.returns
returns c = cut_block c.args.image.now c.args.place c.args.cut c.min-from.result c.clamp-to.result c.min-from.ensures c.clamp-to.ensures
