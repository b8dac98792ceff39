use Rattle.std.proofs.Common.{Err, sym, refl, ◌∙◌, subst, arith}
use Rattle.nodes.proofs.Strings.{rooted_strings}
use Rattle.words.specs.Index.{indexed}
use Rattle.link.specs.Comparing.{Compares}
use Rattle.link.proofs.Equal.{decides_other}
use Rattle.link.proofs.compare.compare.Goals as goal

pub bounds-table-0 : goal.bounds-table-0
bounds-table-0 c = omega (arith, (rooted_strings (indexed c.args.words.now)).some, c.requires)

pub returns-then-ne : goal.returns-then-ne
returns-then-ne c =
    let ws = indexed c.args.words.now in
    let other = (decides_other _ _ _ c.ne.ensures).0 c.if-ne.true in
    subst (λ f. Compares ws c.args.table.now (Err f)) (sym c.at.ensures)
    (refl, record { within = (rooted_strings ws).some; before = λ m below. absurd (omega arith); wrong = λ right. other (right ∙ sym c.expected_root.ensures) })
