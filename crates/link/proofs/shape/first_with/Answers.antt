use Rattle.std.proofs.Common.{false, true, rules}
use borrow.Author.Tests.{tests}
use Rattle.std.proofs.lemmas.Iterator.{IsFirst-from_position, YieldsList-from_slice, YieldsList-from_take}
use Rattle.std.proofs.lemmas.Iterator.Consumers.{YieldsList-at}
use Rattle.words.specs.Index.{slices}
use Rattle.link.proofs.Beginning.{Starts, first_from_cases}
use Rattle.link.proofs.shape.first_with.Goals as goal

pub returns : goal.returns
returns c =
    let xs = slices c.args.words.now in
    let s = c.args.string.now in
    first_from_cases xs s c.args.k c.requires c.position.result
    (IsFirst-from_position _ _ c.position.result (Starts s true) (Starts s false) c.position.ensures.ran
    (YieldsList-from_take c.args.k (YieldsList-at c.take.ensures.source (YieldsList-from_slice xs (cc))) (cc))
    (λ x q h. search (rules, tests)) (λ x q h. search (rules, tests)))
