use Rattle.std.proofs.Common.{◌≡◌, ◌+◌, ◌≤◌, length, drop}
use Rattle.landmark.specs.Grammar.{words_left, words_of}
use Rattle.scan.proofs.words.first_other.Given as goal
use Rattle.scan.specs.Rules.{first_other}

-- no word differs so far, and the words counted and those left are no more than the list's bytes
abbrev pub invariant-loop-word : goal.invariant-loop-word
invariant-loop-word g l =
    let vs = g.F.Finder.words l.finder in
    let left = words_left l.word-iterator in
    (first_other 0 vs (words_of l.list) ≡ first_other l.count (drop l.count vs) left) × (l.count + length left ≤ length l.list)
