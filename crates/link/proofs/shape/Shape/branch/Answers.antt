use Rattle.std.proofs.Common.{None, Some, sym, ap, ◌∙◌, rules, arith}
use borrow.Author.Tests.{tests}
use Rattle.std.proofs.lemmas.Iterator.{first_from_Range}
use Rattle.link.specs.Shape.{Branches}
use Rattle.link.specs.Shaping.{its_words}
use Rattle.link.specs.declared.shape.Part.{Part}
use Rattle.link.proofs.Branching.{branch_found, branch_none}
use Rattle.link.proofs.shape.Shape.branch.Goals as goal

pub returns-in-Some : goal.returns-in-Some
returns-in-Some c =
    let ws = its_words c.args.self.now in
    let k = c.args.k in
    let d = c.args.depth in
    let (later, below, branch, none) = first_from_Range _ _ _ (Some c.in-Some.i) (Branches ws k d) (λ i. Branches ws k d i → ⊥) c.in-Some.ensures.ran (λ x q h. search (rules, tests)) (λ x q h. search (rules, tests)) in
    ap (λ (p : Part). p.base) c.part.ensures ∙ sym (branch_found ws k d c.requires.inside c.requires.within c.in-Some.i (omega arith) (omega arith) branch (λ j low. none j (omega arith)))

pub returns-in-None : goal.returns-in-None
returns-in-None c =
    let ws = its_words c.args.self.now in
    let k = c.args.k in
    let d = c.args.depth in
    let none = first_from_Range _ _ _ None (Branches ws k d) (λ i. Branches ws k d i → ⊥) c.in-None.ensures.ran (λ x q h. search (rules, tests)) (λ x q h. search (rules, tests)) in
    sym (branch_none ws k d c.requires.inside c.requires.within (λ j low high. none j (omega arith) (omega arith)))
