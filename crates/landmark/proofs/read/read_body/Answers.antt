use Rattle.std.proofs.Common.{arith}
use Rattle.std.proofs.lemmas.Bool.Decides.{nat_tests}
use Rattle.landmark.specs.declared.kind.Kind.TheVariants as K
use Rattle.landmark.proofs.read.read_body.Goals as goal

pub returns-in_err-try_from : goal.returns-in_err-try_from
returns-in_err-try_from c =
    let none = c.in_err-try_from.ensures in
    let start = none.1 K.Start in
    let run = none.1 K.Run in
    let gap = none.1 K.Gap in
    let star = none.1 K.Star in
    let any = none.1 K.Any in
    grind (arith, nat_tests)
