use Rattle.track.proofs.Forgetting.{Forgetting}
use Rattle.track.proofs.tracks.Tracks.forget.Given as goal

abbrev pub invariant-loop-word : goal.invariant-loop-word
invariant-loop-word l = Forgetting l.initial.self l.end l.word-iterator.0 l.self
