use Rattle.std.proofs.Common.{◌≡◌, ◌≤◌, [], ◌∷◌, ◌++◌, cond, eqb, map, length, ap, ◌∙◌, sym, subst, arith}
use Rattle.std.proofs.lemmas.List.{append_assoc}
use Rattle.std.proofs.lemmas.Bool.Decides.{nat_tests}
use Rattle.words.specs.Index.{indexed}
use Rattle.shift.specs.Table.{all_bytes}
use Rattle.shift.proofs.Gathering.{Gathered, all_bytes-last, gathered_more, length-all_bytes}
use Rattle.shift.proofs.narrow.Narrow.number.Goals as goal

pub loop-b-init : goal.loop-b-init
loop-b-init c =
    let last = all_bytes-last c.next.new.self.iter.rest.now c.in-Some.word.now in
    let steps = c.in-Some.ensures.steps in
    let g = c.loop-word.invariant in
    record { behind = g.behind; whole = cc; number = g.number }

pub loop-b-preserved : goal.loop-b-preserved
loop-b-preserved c =
    let ws = indexed c.args.self.now.index in
    let front = all_bytes (map (λ s. s.now) c.next.new.self.iter.rest.now) in
    let rest = c.next-in-loop-b.new.self.iter.rest.now in
    let b = c.in-Some-b.b.now in
    let narrow : length (all_bytes ws) ≤ 64 = omega (arith, length-all_bytes ws, c.args.self.now.narrow) in
    let one_more = ap (λ bs. front ++ bs) c.in-Some-b.ensures.steps ∙ sym (append_assoc front rest (b ∷ [])) in
    let digit : c.from.result ≡ cond (eqb b c.args.c) 1 0 = grind (arith, nat_tests) in
    gathered_more (front ++ rest) (all_bytes ws) b c.args.c c.loop-b.bits c.from.result narrow digit (subst (λ bs. Gathered bs (all_bytes ws) c.args.c c.loop-b.bits) one_more c.loop-b.invariant)
