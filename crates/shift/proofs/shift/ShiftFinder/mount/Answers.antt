use Rattle.std.proofs.Common.{rules, ap, ◌∙◌}
use Rattle.landmark.specs.Grammar.{words_of}
use Rattle.words.specs.Index.{indexed}
use Rattle.shift.specs.Register.{halves_of}
use Rattle.shift.proofs.MountLaws.{accepts_built}
use Rattle.shift.proofs.Numbers.{right_table}
use Rattle.shift.proofs.Resting.{halves_at_rest}
use Rattle.shift.proofs.shift.ShiftFinder.mount.Goals as goal

pub returns-in_err-words-clause-law : goal.returns-in_err-words-clause-law
returns-in_err-words-clause-law c = accepts_built c.args.list.now c.args.table.now c.args.self.now c.args.self.now c.from_residual.result (search rules)

pub returns-in_err-compare-clause-law : goal.returns-in_err-compare-clause-law
returns-in_err-compare-clause-law c = accepts_built c.args.list.now c.args.table.now c.args.self.now c.args.self.now c.from_residual-in_err-compare.result (search rules)

pub returns-clause-exact : goal.returns-clause-exact
returns-clause-exact c =
    let (none, enough, words) = c.in_ok-words.ensures in
    let right = right_table (indexed c.in_ok-words.words.index) c.args.table.now enough c.in_ok-compare.ensures in
    let rest = halves_at_rest 0 (words_of c.args.list.now) in
    (none, cc, words, ap (λ ws. halves_of ws 0) words ∙ rest)
