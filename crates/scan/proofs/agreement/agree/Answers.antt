use Rattle.scan.proofs.Agreeing.{alike_at}
use Rattle.scan.proofs.Promised.{promise}
use Rattle.scan.proofs.agreement.agree.Goals as goal

pub returns : goal.returns
returns g c = record {
  exact = c.alike.ensures;
  always = λ h i left right same. c.alike.ensures.1 (alike_at g.F.Finder g.G.Finder c.args.left.now c.args.right.now h i left right same);
  promise = promise g.F.Finder g.G.Finder;
}
