-- What the judge keeps of a row of records.
use Rattle.std.specs.Prelude.{◌≡◌, ◌∷◌, Some, None, Ok, Err, Result}
use Rattle.landmark.specs.Records.{Item}
use Rattle.landmark.specs.Lists.{Row, allowance, counts, newest, gap_since, row_refusal, sort_of}
use Rattle.landmark.specs.Spacings.{capped}
use Rattle.landmark.specs.declared.judge.Judge.{Judge}
use Rattle.landmark.specs.declared.judge.Sort.TheVariants.{Operator}
use Rattle.landmark.specs.declared.spacing.Spacing.{Spacing}
use Rattle.landmark.specs.declared.refusal.Refusal.{Refusal}

-- the judge has judged the row
pub record HasJudged (j : Judge) (row : Row) : Type 0 where
  pub counts : j.counts ≡ counts row
  pub newest : j.newest ≡ newest row
  pub spacing : j.spacing ≡ capped (gap_since row)

-- one more record: refused as the rules say, or judged behind the row
abbrev pub Judges : Judge → Item → Judge → Result Unit Refusal → Type 0
Judges j i k (Ok done) = (row : Row) → HasJudged j row → (row_refusal row (sort_of i) ≡ None) × HasJudged k (i ∷ row)
Judges j i k (Err why) = (row : Row) → HasJudged j row → row_refusal row (sort_of i) ≡ Some why

-- the item is an operator that stands for so many bytes
pub record Operates (i : Item) (allowed : Spacing) : Type 0 where
  pub sort : sort_of i ≡ Operator
  pub allows : allowed ≡ capped (allowance i)
