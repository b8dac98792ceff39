use Rattle.scan_tests.proofs.calls.answers.Given as goal
use Rattle.scan_tests.specs.Keeping.{Keeps}

abbrev pub invariant-loop-call : goal.invariant-loop-call
invariant-loop-call g l = Keeps l.initial.scan.out l.scan.out
