-- Rows of a few items.
use Rattle.std.specs.Prelude.{◌≡◌, ℕ, ◌+◌, ◌<◌, List, [], ◌∷◌, ◌++◌, take}
use Rattle.plan.specs.declared.plan.Row.{Row}

-- the items of a row
abbrev pub items_in : {T : Type 0} {N : ℕ} → Row T N → List T
items_in row = take row.count row.items

-- the row with one item more, where there is room
pub record Pushes {T : Type 0} {N : ℕ} (before : Row T N) (item : T) (after : Row T N) : Type 0 where
  pub count : before.count < N → after.count ≡ before.count + 1
  pub items : before.count < N → items_in after ≡ items_in before ++ (item ∷ [])
