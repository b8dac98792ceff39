use Rattle.finder.proofs.Joining.{both-rested}
use Rattle.finder.proofs.pair.PairFinder.rest.Goals as goal

pub returns : goal.returns
returns g c =
    let (kept, half) = both-rested c.rest.ensures c.rest-2.ensures in
    record { kept = kept; half = half }
