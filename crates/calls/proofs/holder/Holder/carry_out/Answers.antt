use Rattle.scan.specs.Runs.{carrying_out}
use Rattle.calls.proofs.holder.Holder.carry_out.Goals as goal
use Rattle.std.proofs.Common.{[], ◌∷◌, Ok, refl}

pub returns-in-Some : goal.returns-in-Some
returns-in-Some g c = record {
  steps = carrying_out c.in-Some.order (Ok c.unwrap.result) ∷ [];
  is = rw (← c.take.ensures.value, c.in-Some.is) (Ok c.unwrap.result, refl, refl);
  does = (c.args.self.now.scan, refl, rw (← c.unwrap.ensures) c.carry_out.ensures);
}
