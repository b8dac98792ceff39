use Rattle.std.proofs.Common.{ℕ, ◌+◌, rules, refl}
use Rattle.std.proofs.lemmas.Iterator.{YieldsList-from_range}
use Rattle.std.proofs.lemmas.Iterator.Consumers.{fold_from_yields_List}
use Rattle.scan.specs.Calls.{own_facts}
use Rattle.scan.specs.Rules.{end_at}
use Rattle.bench_export.specs.Scans.{with_end}
use Rattle.bench_export.proofs.scans.ends_sum.Goals as goal

pub returns : goal.returns
returns g c =
    fold_from_yields_List _ (λ (sum k : ℕ). with_end sum (k + 1) (end_at (own_facts c.args.scan.now) k)) 0 c.fold.result c.fold.ensures.ran (YieldsList-from_range 0 32 32 refl refl) (λ a k b q is. search rules)
