use Rattle.std.proofs.Common.{sym, subst}
use Rattle.landmark.specs.Judging.{Judges}
use Rattle.landmark.specs.Records.{item}
use Rattle.landmark.specs.declared.element.Element.{Element}
use Rattle.landmark.proofs.judge.Judge.take.Goals as goal

pub returns-in-Start : goal.returns-in-Start
returns-in-Start c =
    subst (λ (e : Element). Judges c.args.self.now (item e) c.start.new.self c.start.result) (sym c.in-Start.is) (c.start.ensures c.in-Start.field-0)
