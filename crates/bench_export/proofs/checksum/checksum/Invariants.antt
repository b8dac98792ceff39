use Rattle.std.proofs.Common.{◌≡◌, ℕ, take}
use Rattle.finder.specs.Meaning.{Heard}
use Rattle.bench_export.specs.Checksums.{checksum}
use Rattle.bench_export.proofs.checksum.checksum.Given as goal

-- the finder has heard the bytes so far, and the checksum is theirs
abbrev pub invariant-loop-i : goal.invariant-loop-i
invariant-loop-i g l =
    ((answer : ℕ) × Heard g.F.Finder l.initial.finder (take l.i l.image) l.finder answer)
    × (l.sum ≡ checksum (g.F.Finder.words l.initial.finder) l.image l.i)
