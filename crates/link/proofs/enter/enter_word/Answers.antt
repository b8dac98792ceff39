use Rattle.std.proofs.Common.{◌≡◌, ◌<◌, List, [], length, take, subst, arith}
use Rattle.std.proofs.lemmas.List.{length-take-le, take_all, take_more}
use Rattle.finder.specs.Words.{word}
use Rattle.link.specs.Entering.{Holds, Reaches}
use Rattle.link.specs.declared.node.Node.{Node}
use Rattle.link.proofs.Growing.{few_strings, few_symbols}
use Rattle.link.proofs.Marking.{holds-word}
use Rattle.link.proofs.Reaching.{reaches_fits, reaches_more, reaches_own}
use Rattle.link.proofs.enter.enter_word.Goals as goal

pub enter_symbol-reached-requires : goal.enter_symbol-reached-requires
enter_symbol-reached-requires g c =
    let s = c.args.source.now in
    let ws = g.S.Source.entered s in
    let k = c.args.k in
    let w = word ws k in
    let i = c.loop-i.i in
    let inside : i < length w = omega (arith, c.length_of-i-end.ensures) in
    let here = c.loop-i.invariant.1 c.args.table.now c.requires.held in
    let few = few_strings ws k i c.requires.one inside in
    let most = few_symbols ws (g.S.Source.few s) (g.S.Source.sized s) in
    record {
      us = take k ws;
      v = take i w;
      reaches = reaches_own (take k ws) (take i w) c.args.table.now c.loop-i.table c.loop-i.reached here;
      short = omega (arith, length-take-le i w (omega arith), (g.S.Source.sized s k c.requires.one).1);
      room = omega (arith, here.front.size, c.loop-i.auto.table, c.requires.room);
      few = omega (arith, here.front.size);
    }

pub loop-i-preserved : goal.loop-i-preserved
loop-i-preserved g c =
    let ws = g.S.Source.entered c.args.source.now in
    let us = take c.args.k ws in
    let w = word ws c.args.k in
    let i = c.loop-i.i in
    let inside : i < length w = omega (arith, c.length_of-i-end.ensures) in
    let next = λ (before : List Node) (holds : Holds us c.args.count before c.args.table.now).
    reaches_more us w before _ _ i _ inside c.symbol.ensures (c.enter_symbol-reached.ensures us (take i w) before (c.loop-i.invariant.1 before holds)) in
    (reaches_fits _ _ _ _ _ (next c.args.table.now c.requires.held), next)

pub returns : goal.returns
returns g c before holds =
    let s = c.args.source.now in
    let ws = g.S.Source.entered s in
    let k = c.args.k in
    let us = take k ws in
    let w = word ws k in
    let t = c.loop-i.table in
    let r = c.loop-i.reached in
    let whole = take_all c.loop-i.i w (omega (arith, c.length_of-i-end.ensures)) in
    let reaches = subst (λ v. Reaches us v before t r) whole (c.loop-i.invariant.1 before holds) in
    let number : length us ≡ k = length-take-le k ws (omega (arith, c.requires.one)) in
    let held = holds-word us w before t r reaches c.loop-i.invariant.0 k number (omega (arith, g.S.Source.few s, c.requires.one)) in
    rw (take_more ws k [] c.requires.one) held
