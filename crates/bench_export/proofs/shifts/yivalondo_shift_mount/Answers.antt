use Rattle.std.proofs.Common.{ℕ, List, Ok, Err, Result}
use Rattle.std.specs.Result.{is_ok}
use Rattle.landmark.specs.declared.refusal.Fault.{Fault}
use Rattle.shift.specs.Mounting.{Mounts}
use Rattle.bench_export.specs.Shifts.{Mounted}
use Rattle.bench_export.proofs.shifts.yivalondo_shift_mount.Goals as goal

-- whether it is accepted, by what mounting answered
told : (l : List ℕ) (table : List ℕ) (before after : _) (r : Result (Unit {0}) Fault) → Mounts l table before after r → Mounted l table (is_ok r)
told l table before after (Ok done) m = (m.0, m.1)
told l table before after (Err f) m = (f, m.0)

pub returns : goal.returns
returns c = rw c.is_ok.ensures.value (told c.args.list.now c.args.table.now c.new-finder.result c.mount.new.self c.mount.result c.mount.ensures.exact)
