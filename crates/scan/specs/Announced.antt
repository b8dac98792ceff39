-- How many bytes may be announced.
use Rattle.std.specs.Prelude.{ℕ}

-- the greatest length that may be announced
abbrev pub most_announced : ℕ
most_announced = 1048576
