use Rattle.std.proofs.Common.{◌≡◌, ℕ, ◌++◌}
use Rattle.landmark.specs.Grammar.{words_from, words_of}
use Rattle.landmark.specs.Readings.{readings_from, readings_left}
use Rattle.words.specs.Index.{indexed}
use Rattle.words.proofs.words.Words.of.Given as goal

-- the words so far and those of the records left are the words of the list
abbrev pub invariant-loop-read : goal.invariant-loop-read
invariant-loop-read l = (p : ℕ) × (readings_left l.read-iterator ≡ readings_from l.list p) × (indexed l.words ++ words_from l.list p ≡ words_of l.list)
