use Rattle.std.proofs.Common.{◌≡◌, ◌-◌, ◌*◌, min, ◌≢◌, Decides, get_or, arith}
use lib.Bits.{bit_and}
use Rattle.std.proofs.lemmas.Bool.Decides.{Decides-like, nat_tests}
use Rattle.window.specs.Windows.{number_bits}
use Rattle.window.proofs.Asking.{number_asked}
use Rattle.window.proofs.ask.any_in_number.Goals as goal
use Rattle.window.proofs.ask.any_in_number.Goals.{then-i-first, else-i-first, then-i-last, else-i-last}

pub returns : goal.returns
returns c =
    let window = c.args.window.now in
    let from = c.before.before.before.before.before.if-i-first.from in
    let to = c.before.before.before.if-i-last.to in
    let from-is : from ≡ c.args.first - number_bits * c.args.i = elim c.if-i-first.branch [ then-i-first w ↦ omega (arith, w.from-is, w.if-i-first) | else-i-first w ↦ omega (arith, w.from-is, w.if-i-first) ] in
    let to-is : to ≡ min (c.args.last - number_bits * c.args.i) (number_bits - 1) = elim c.if-i-last.branch [ then-i-last w ↦ omega (arith, w.to-is, w.if-i-last) | else-i-last w ↦ omega (arith, w.to-is, w.if-i-last) ] in
    let (there, back) = number_asked window c.args.i c.args.first c.args.last from to c.mask.result c.requires.0 c.requires.1 from-is to-is (omega arith) c.mask.ensures in
    let some : Decides _ (bit_and (get_or window c.args.i 0) c.mask.result ≢ 0) = grind (arith, nat_tests) in
    Decides-like _ there back some
