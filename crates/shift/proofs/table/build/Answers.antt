use Rattle.std.proofs.Common.{◌≡◌, length, drop, ◌++◌, refl, ap, sym, subst, ◌∙◌, arith}
use Rattle.std.proofs.lemmas.List.{length-take-le}
use Rattle.landmark.specs.Grammar.{words_of}
use Rattle.words.specs.Index.{indexed}
use Rattle.shift.specs.Table.{entries, table_of, TellsPlaces}
use Rattle.shift.proofs.Numbers.{right_numbers, table_tells}
use Rattle.shift.proofs.table.build.Goals as goal

pub slice_bounds-write-end-2 : goal.slice_bounds-write-end-2
slice_bounds-write-end-2 c = sym (length-take-le entries c.args.table.now c.in_ok-words.ensures.1)

pub write-requires : goal.write-requires
write-requires c = omega (arith, length-take-le entries c.args.table.now c.in_ok-words.ensures.1)

pub returns : goal.returns
returns c =
    let (none, enough, words) = c.in_ok-words.ensures in
    let before = c.args.table.now in
    let size : length c.write.new.table ≡ entries = omega (arith, length-take-le entries before enough) in
    let built : c.write.new.table ++ drop entries before ≡ table_of (words_of c.args.list.now) ++ drop entries before =
    ap (λ t. t ++ drop entries before) (right_numbers (indexed c.in_ok-words.words.index) c.write.new.table size (λ k within. c.write.ensures k (omega arith)) ∙ ap table_of words) in
    record { exact = (none, refl, built); law = subst (TellsPlaces (words_of c.args.list.now)) (sym built) (table_tells (words_of c.args.list.now) (drop entries before)) }
