use Rattle.std.proofs.Common.{◌≡◌, ℕ, ◌-◌, ◌<◌, List, length, take, drop, Some, sym, ap, ◌∙◌, subst, arith}
use Rattle.std.proofs.lemmas.List.{length-drop, take_rest}
use Rattle.link.specs.Shaping.{its_words}
use Rattle.link.specs.Shape.{FirstWith, Makes, NoneBefore}
use Rattle.link.proofs.Backing.{left-found, left-more, left-none}
use Rattle.link.proofs.Making.{first_makes}
use Rattle.link.proofs.shape.Shape.back_of.Goals as goal

-- the word that was found makes the node
makes : (ws : List (List ℕ)) (s : List ℕ) (from i n : ℕ) → from < length s → n ≡ length ws → FirstWith ws (take (length s - from) (drop from s)) n (Some i) → Makes ws i (length (take (length s - from) (drop from s)))
makes ws s from i n inside all (below, begins, none) = first_makes ws _ i (omega arith) (omega (arith, ap length (take_rest s from), length-drop from s)) begins none

pub number-requires : goal.number-requires
number-requires c = makes (its_words c.args.self.now) c.args.string.now c.loop-from.from c.in-Some.i _ c.loop-from-test.true c.count.ensures c.in-Some.ensures

pub returns-in-Some : goal.returns-in-Some
returns-in-Some c =
    let ws = its_words c.args.self.now in
    let s = c.args.string.now in
    let from = c.loop-from.from in
    let i = c.in-Some.i in
    let made = makes ws s from i _ c.loop-from-test.true c.count.ensures c.in-Some.ensures in
    c.number.ensures ∙ sym (left-found ws s from c.loop-from.invariant _ (take_rest s from) i made c.in-Some.ensures.1)

pub loop-from-preserved : goal.loop-from-preserved
loop-from-preserved c =
    let ws = its_words c.args.self.now in
    let s = c.args.string.now in
    let from = c.loop-from.from in
    let t = take (length s - from) (drop from s) in
    left-more ws s from c.loop-from.invariant t (take_rest s from) c.loop-from-test.true (subst (NoneBefore ws t) c.count.ensures c.in_default.ensures)

pub returns : goal.returns
returns c = sym (left-none (its_words c.args.self.now) c.args.string.now c.loop-from.from c.loop-from.invariant c.loop-from-test.false)
