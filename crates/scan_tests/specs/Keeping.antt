-- What becomes of an order that is out.
use Rattle.std.specs.Prelude.{◌≡◌, ◌≢◌, Some, None, Ok, Err, Option, Result}
use Rattle.scan.specs.declared.order.Numbers.{Numbers}
use Rattle.scan.specs.declared.order.Order.{Order}
use Rattle.scan.specs.declared.order.Returned.{Returned}

-- an order that is out stays out
abbrev pub Keeps : Option Numbers → Option Numbers → Type 0
Keeps before after = (n : Numbers) → before ≡ Some n → after ≡ Some n

-- settling an order: it was the one that is out, and none is out then; or it was another, and is handed back
abbrev pub Settles : {A : Type 0} → Option Numbers → Order → Result A Returned → Option Numbers → Type 0
Settles before o (Ok said) after = (before ≡ Some o.numbers) × (after ≡ None)
Settles before o (Err back) after = (before ≢ Some o.numbers) × (back.order ≡ o) × (after ≡ before)
