use Rattle.std.proofs.Common.{rules, refl}
use Rattle.shift.proofs.narrow.Narrow.compare.Goals as goal

pub returns-in-Some : goal.returns-in-Some
returns-in-Some c =
    rw c.at.ensures (refl, record { within = search rules; before = λ k earlier. search rules; wrong = search rules })
