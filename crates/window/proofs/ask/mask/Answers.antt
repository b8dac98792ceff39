use Rattle.window.proofs.Bits.{masked}
use Rattle.window.proofs.ask.mask.Goals as goal

pub returns : goal.returns
returns c = masked c.args.from c.args.to c.requires.1
