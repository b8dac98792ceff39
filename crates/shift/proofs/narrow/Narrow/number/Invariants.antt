use Rattle.std.proofs.Common.{◌++◌, map}
use Rattle.words.specs.Index.{indexed}
use Rattle.shift.specs.Table.{all_bytes}
use Rattle.shift.proofs.Gathering.{Gathered}
use Rattle.shift.proofs.narrow.Narrow.number.Given as goal

-- the bits of the words behind those to come are gathered
abbrev pub invariant-loop-word : goal.invariant-loop-word
invariant-loop-word l = Gathered (all_bytes (map (λ s. s.now) l.word-iterator.iter.rest.now)) (all_bytes (indexed l.self.index)) l.c l.bits

-- and those of the bytes of the word behind the ones to come
abbrev pub invariant-loop-b : goal.invariant-loop-b
invariant-loop-b l = Gathered (all_bytes (map (λ s. s.now) l.word-iterator.iter.rest.now) ++ l.b-iterator.iter.rest.now) (all_bytes (indexed l.self.index)) l.c l.bits
