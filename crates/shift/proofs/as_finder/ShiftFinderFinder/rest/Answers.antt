use Rattle.std.proofs.Common.{refl}
use Rattle.words.specs.Index.{indexed}
use Rattle.shift.proofs.Resting.{halves_at_rest}
use Rattle.shift.proofs.as_finder.ShiftFinderFinder.rest.Goals as goal

pub returns : goal.returns
returns c = record { kept = refl; half = halves_at_rest 0 (indexed c.args.self.now.words.index) }
