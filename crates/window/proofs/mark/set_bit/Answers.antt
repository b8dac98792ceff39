use Rattle.std.proofs.Common.{◌-◌, ◌/◌, ◌%◌, ◌^◌, get_or, ap, arith}
use lib.Bits.{bit_and, bit_or}
use Rattle.std.proofs.lemmas.Nat.{one_shl}
use Rattle.window.specs.Windows.{number_bits}
use Rattle.window.proofs.Marking.{makes_bit}
use Rattle.window.proofs.mark.set_bit.Goals as goal

pub returns-then-value : goal.returns-then-value
returns-then-value c =
    let number = get_or c.args.window.now (c.args.at / number_bits) 0 in
    makes_bit c.args.window.now c.args.at _ c.args.value (omega arith) c.requires
    (rw c.if-value.true (ap (bit_or number) (one_shl (c.args.at % number_bits) number_bits (omega arith))))

pub returns-else-value : goal.returns-else-value
returns-else-value c =
    let number = get_or c.args.window.now (c.args.at / number_bits) 0 in
    makes_bit c.args.window.now c.args.at _ c.args.value (omega arith) c.requires
    (rw c.if-value.false (ap (λ bit. bit_and number (2 ^ number_bits - 1 - bit)) (one_shl (c.args.at % number_bits) number_bits (omega arith))))
