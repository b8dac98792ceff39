use Rattle.track.proofs.Taking.{Taken}
use Rattle.track.proofs.tracks.Tracks.take.Given as goal

abbrev pub invariant-loop-word : goal.invariant-loop-word
invariant-loop-word l = Taken l.plan l.initial.self l.ending l.end l.word-iterator.0 l.self
