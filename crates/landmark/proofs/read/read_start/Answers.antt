use Rattle.std.proofs.Common.{arith}
use Rattle.std.proofs.lemmas.Bool.Decides.{nat_tests}
use Rattle.landmark.specs.declared.element.Role.TheVariants.{Entry, Bar}
use Rattle.landmark.proofs.read.read_start.Goals as goal

pub returns-in_err-role : goal.returns-in_err-role
returns-in_err-role c =
    let entry = c.in_err-role.ensures.1 Entry in
    let bar = c.in_err-role.ensures.1 Bar in
    grind (arith, nat_tests)
