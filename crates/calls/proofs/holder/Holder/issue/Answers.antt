use Rattle.scan.specs.Runs.{issuing}
use Rattle.calls.specs.declared.call.Answer.TheVariants.{Issued}
use Rattle.calls.proofs.holder.Holder.issue.Goals as goal
use Rattle.std.proofs.Common.{[], ◌∷◌, Ok, Err, refl, ap}

pub returns-in-None : goal.returns-in-None
returns-in-None g c = record {
  steps = issuing c.args.landmark (Ok c.in-Ok.order) ∷ [];
  is = (Ok c.in-Ok.order, ap (λ n. Issued (Ok n)) c.numbers-numbers.ensures, refl);
  does = (c.args.self.now.scan, refl, c.in-Ok.ensures);
}

pub returns-in-Err : goal.returns-in-Err
returns-in-Err g c = record {
  steps = issuing c.args.landmark (Err c.in-Err.fault) ∷ [];
  is = (Err c.in-Err.fault, refl, refl);
  does = (c.args.self.now.scan, refl, c.in-Err.ensures);
}
