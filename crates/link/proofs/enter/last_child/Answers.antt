use Rattle.std.proofs.Common.{◌≡◌, None, sym, ap, ◌∙◌, rules, of_calls}
use Rattle.std.specs.List.{last_or}
use Rattle.std.specs.Option.{option_map}
use Rattle.std.proofs.lemmas.List.{map-id}
use Rattle.std.proofs.lemmas.Iterator.{items_from_drains}
use Rattle.std.proofs.lemmas.Iterator.Consumers.{YieldsList-from_first}
use Rattle.link.specs.Children.{children}
use Rattle.link.specs.Walking.{children_left}
use Rattle.link.proofs.enter.last_child.Goals as goal

pub returns : goal.returns
returns c =
    let all = children c.args.table.now c.args.at in
    let (xs, drains, last) = c.last.ensures.ran in
    let (done, (before, yields, ends)) = drains in
    let items = items_from_drains xs (before, yields, λ _. (done, ends)) (YieldsList-from_first (λ x. x) children_left {s = c.of.result} all c.of.ensures) in
    let is : c.map.result ≡ option_map (λ p. p.0) c.last.result = search (rules, of_calls) in
    is ∙ ap (option_map (λ p. p.0)) (last ∙ ap (last_or None) (sym (map-id xs) ∙ items))
