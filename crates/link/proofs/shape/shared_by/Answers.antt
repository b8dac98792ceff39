use Rattle.std.proofs.Common.{length, false, true, ap, ◌∙◌, rules}
use borrow.Author.Tests.{tests}
use Rattle.std.specs.Option.{unwrap_or}
use Rattle.std.proofs.lemmas.Iterator.{first_from_Range}
use Rattle.words.specs.Index.{indexed}
use Rattle.link.proofs.Beginning.{Front, shared_from_cases}
use Rattle.link.proofs.shape.shared_by.Goals as goal

pub returns : goal.returns
returns c =
    let ws = indexed c.args.words.now in
    let k = c.args.k in
    let long = ap length c.word-word.ensures in
    c.unwrap_or.ensures ∙ ap (unwrap_or c.find.result) long ∙ shared_from_cases ws k c.requires c.find.result
    (rw (← long) (first_from_Range _ _ _ c.find.result (Front ws k c.requires false) (Front ws k c.requires true) c.find.ensures.ran (λ x q h. search (rules, tests)) (λ x q h. search (rules, tests))))
