use Rattle.scan.specs.Runs.{opening, offering, asking}
use Rattle.calls.proofs.holder.Holder.make.Goals as goal
use Rattle.std.proofs.Common.{[], ◌∷◌, refl}

pub returns-in-Open : goal.returns-in-Open
returns-in-Open g c = record {
  steps = opening c.in-Open.list.now c.in-Open.announced c.open.result ∷ [];
  is = rw c.in-Open.is (c.open.result, refl, refl);
  does = (c.args.self.now.scan, refl, c.open.ensures);
}

pub returns-in-Offer : goal.returns-in-Offer
returns-in-Offer g c = record {
  steps = offering c.in-Offer.place c.in-Offer.block.now c.offer.result ∷ [];
  is = rw c.in-Offer.is (c.offer.result, refl, refl);
  does = (c.args.self.now.scan, refl, c.offer.ensures);
}

pub returns-in-Ask : goal.returns-in-Ask
returns-in-Ask g c = record {
  steps = asking c.in-Ask.landmark c.ask.result ∷ [];
  is = rw c.in-Ask.is (c.ask.result, refl, refl);
  does = (c.args.self.now.scan, refl, (c.ask.ensures, refl));
}
