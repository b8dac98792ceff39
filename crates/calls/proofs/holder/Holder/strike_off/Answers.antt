use Rattle.scan.specs.Runs.{striking_off}
use Rattle.calls.proofs.holder.Holder.strike_off.Goals as goal
use Rattle.std.proofs.Common.{[], ◌∷◌, Ok, refl}

pub returns-in-Some : goal.returns-in-Some
returns-in-Some g c = record {
  steps = striking_off c.in-Some.order (Ok tt) ∷ [];
  is = rw (← c.take.ensures.value, c.in-Some.is) (Ok tt, refl, refl);
  does = (c.args.self.now.scan, refl, rw (← c.unwrap.ensures) c.strike_off.ensures);
}
