use Rattle.std.proofs.Common.{refl}
use Rattle.words.specs.Index.{indexed}
use Rattle.words.specs.Sizes.{indexed-sized}
use Rattle.shift.proofs.Stepping.{halves_taken}
use Rattle.shift.proofs.as_finder.ShiftFinderFinder.take.Goals as goal

pub returns : goal.returns
returns c =
    let s = c.args.self.now in
    let half = halves_taken (indexed s.words.index) c.args.b s.register s.edges.firsts c.number_at-number.result (λ k within. (indexed-sized s.words.index k within).0) s.words.narrow s.marked.begins c.number_at-number.ensures in
    record { kept = refl; half = half; tells = c.ended.ensures }
