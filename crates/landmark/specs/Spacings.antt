-- A gap's sums as the judge keeps them: each stands still at a cap that no allowed gap reaches.
use Rattle.std.specs.Prelude.{ℕ, min, Some, None, Option}
use Rattle.occurrence.specs.Occurrence.{Gap}
use Rattle.landmark.specs.declared.spacing.Spacing.{Spacing}

abbrev pub cap : ℕ
cap = 65535

abbrev pub cap_greatest : Option ℕ → Option ℕ
cap_greatest None = None
cap_greatest (Some n) = Some (min n cap)

abbrev pub capped : Gap → Spacing
capped g = record { least = min g.least cap; greatest = cap_greatest g.greatest }
