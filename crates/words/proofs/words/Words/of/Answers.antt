use Rattle.std.proofs.Common.{rules, [], ◌∷◌, ◌++◌, ap, ◌∙◌, sym, inl, inr, arith}
use Rattle.std.proofs.lemmas.List.{append_assoc, length-drop, length-take}
use Rattle.std.proofs.lemmas.Bool.Decides.{nat_tests}
use Rattle.landmark.specs.Grammar.{words_from}
use Rattle.landmark.specs.Readings.{readings_left}
use Rattle.landmark.proofs.ReadingLaws.{first_reading, none_left}
use Rattle.words.specs.Index.{indexed}
use Rattle.words.proofs.Runs.{run_read, words-at_run, words-past, no_words, none_past, indexes}
use Rattle.words.proofs.words.Words.of.Goals as goal

pub loop-read-init : goal.loop-read-init
loop-read-init c =
    let l = c.args.list.now in
    (0, ap readings_left c.into_iter-read-iterator.ensures.into_iter_gives ∙ c.of-read-items.ensures.all, ap (λ before. before ++ words_from l 0) c.none-words.ensures)

pub returns-then-is_full : goal.returns-then-is_full
returns-then-is_full c =
    let (p, left, all) = c.loop-read.invariant in
    indexes c.args.list.now c.loop-read.words (words_from c.args.list.now p) (λ k. (c.type_inv.list k).fits) all (inr (grind (arith, nat_tests)))

pub returns-in-Err : goal.returns-in-Err
returns-in-Err c =
    let (p, left, all) = c.loop-read.invariant in
    let first = first_reading c.args.list.now p left c.in-Some.ensures.steps c.in-Err.is in
    indexes c.args.list.now c.loop-read.words (words_from c.args.list.now p) (λ k. (c.type_inv.list k).fits) all (inl (no_words c.args.list.now p _ first.1.0))

pub push-requires-clause-sized : goal.push-requires-clause-sized
push-requires-clause-sized c =
    let (p, left, all) = c.loop-read.invariant in
    let first = first_reading c.args.list.now p left c.in-Some.ensures.steps c.in-Ok.is in
    let run = run_read c.args.list.now p _ _ (λ k. (c.type_inv.list k).fits) first.1.0 c.in-Run.is in
    let within = run.within in
    let some = run.some in
    let small = run.small in
    search (rules, length-take, length-drop)

pub loop-read-preserved-in-Run : goal.loop-read-preserved-in-Run
loop-read-preserved-in-Run c =
    let l = c.args.list.now in
    let (p, left, all) = c.loop-read.invariant in
    let first = first_reading l p left c.in-Some.ensures.steps c.in-Ok.is in
    let next = words-at_run l p _ _ first.1.0 c.in-Run.is in
    let rest = first.1.1 in
    let whole = append_assoc (indexed c.loop-read.words) (c.in-Run.bytes.now ∷ []) (words_from l c.in-Ok.read.next) in
    let more = c.push.ensures in
    (c.in-Ok.read.next, first.2, cc)

pub loop-read-preserved : goal.loop-read-preserved
loop-read-preserved c =
    let l = c.args.list.now in
    let (p, left, all) = c.loop-read.invariant in
    let first = first_reading l p left c.in-Some.ensures.steps c.in-Ok.is in
    let next = words-past l p _ first.1.0 c.in_default.not-Run in
    let rest = first.1.1 in
    (c.in-Ok.read.next, first.2, cc)

pub returns : goal.returns
returns c =
    let (p, left, all) = c.loop-read.invariant in
    indexes c.args.list.now c.loop-read.words (words_from c.args.list.now p) (λ k. (c.type_inv.list k).fits) all (inl (none_past c.args.list.now p (none_left c.args.list.now p (sym left ∙ c.in-None.ensures.steps.0))))
