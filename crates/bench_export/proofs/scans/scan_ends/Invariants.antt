use Rattle.std.proofs.Common.{◌≡◌, drop}
use Rattle.std.specs.Slice.Iter.{chunks_rest}
use Rattle.entry.proofs.Finding.{Scanning}
use Rattle.bench_export.proofs.scans.scan_ends.Given as goal

-- so many bytes of the image are taken, and the chunks to come are the rest
abbrev pub invariant-loop-chunk : goal.invariant-loop-chunk
invariant-loop-chunk g l =
    (goal.iterator-loop-chunk g).can_next l.chunk-iterator
    × (goal.iterator-loop-chunk g).is_finite l.chunk-iterator
    × Scanning g.F.Finder l.list l.image l.taken l.scan
    × (drop l.taken l.image ≡ chunks_rest l.chunk-iterator)
