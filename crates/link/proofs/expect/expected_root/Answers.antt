use Rattle.std.proofs.Common.{◌≡◌, ℕ, ◌<◌, length, sym, ap, ◌∙◌, ⊎_elim, arith}
use Rattle.std.proofs.lemmas.Bool.{cases_eq}
use Rattle.std.proofs.lemmas.Bool.Decides.{nat_tests}
use Rattle.std.proofs.lemmas.List.{nil_from_length}
use Rattle.words.specs.Index.{indexed}
use Rattle.words.specs.Sizes.{indexed-sized}
use Rattle.link.specs.Table.{node_at, table_of}
use Rattle.link.specs.declared.node.Node.{Node}
use Rattle.link.proofs.Entries.{entry_root}
use Rattle.link.proofs.expect.expected_root.Goals as goal

pub returns : goal.returns
returns c =
    let w = c.args.words.now in
    let ws = indexed w in
    let root : ℕ → Node = λ first. record { depth = 0; byte = 0; first = first; next = 0; back = 0; mask = 0 } in
    ⊎_elim
    (λ none. let is : c.from.result ≡ 0 = grind (arith, nat_tests, none) in ap root is ∙ sym (ap (λ us. node_at (table_of us) 0) (nil_from_length ws none)))
    (λ other. let some : 0 < length ws = omega arith in let is : c.from.result ≡ 1 = grind (arith, nat_tests, some) in ap root is ∙ sym (entry_root ws some (λ k inside. (indexed-sized w k inside).0)))
    (cases_eq (length ws) 0)
