use Rattle.calls.proofs.Running.{Running}
use Rattle.calls.proofs.run.run_calls.Given as goal

abbrev pub invariant-loop-i : goal.invariant-loop-i
invariant-loop-i g l = Running g.F.Finder l.initial.holder.scan.finder l.calls l.initial.answers l.i l.answers l.holder
