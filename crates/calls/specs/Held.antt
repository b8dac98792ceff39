-- The order that is held beside a scan.
use Rattle.std.specs.Prelude.{Some, None, Option}
use Rattle.scan.specs.declared.order.Numbers.{Numbers}
use Rattle.scan.specs.declared.order.Order.{Order}

-- the numbers of an order that is held
abbrev pub numbers_held : Option Order → Option Numbers
numbers_held None = None
numbers_held (Some o) = Some o.numbers
