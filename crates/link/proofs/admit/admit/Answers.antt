use Rattle.std.proofs.Common.{arith}
use Rattle.link.proofs.Making.{bytes_few}
use Rattle.link.proofs.admit.admit.Goals as goal

pub overflow_add-needed : goal.overflow_add-needed
overflow_add-needed c = omega (arith, bytes_few c.args.words.now)
