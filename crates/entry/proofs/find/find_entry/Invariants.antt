use Rattle.entry.proofs.Finding.{Scanning}
use Rattle.entry.proofs.find.find_entry.Given as goal

abbrev pub invariant-loop-cut : goal.invariant-loop-cut
invariant-loop-cut g l = Scanning g.F.Finder l.list l.image l.taken l.scan
