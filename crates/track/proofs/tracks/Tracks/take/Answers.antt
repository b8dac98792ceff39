use Rattle.track.proofs.Taking.{taken_all}
use Rattle.track.proofs.tracks.Tracks.take.Goals as goal

pub returns : goal.returns
returns c =
    taken_all c.args.plan.now c.args.self.now c.forget.new.self c.args.ending c.args.end c.loop-word.word-iterator.0 c.loop-word.self
    c.forget.ensures c.in-None.ensures.steps.0 c.loop-word.invariant
