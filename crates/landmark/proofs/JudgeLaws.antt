-- What one more record does to a row's counts.
use Rattle.std.proofs.Common.{◌≡◌, ◌∷◌, refl}
use Rattle.landmark.specs.Records.{Item, start, run, gap, star, any}
use Rattle.landmark.specs.Lists.{Row, sort_of, landmarks_in, words_in, bytes_in, gap_since, plus, allowance}
use Rattle.landmark.specs.declared.judge.Sort.TheVariants as S

-- an operator adds to the gap alone
pub record AddsGap (i : Item) (row : Row) : Type 0 where
  pub landmarks : landmarks_in (i ∷ row) ≡ landmarks_in row
  pub words : words_in (i ∷ row) ≡ words_in row
  pub run_bytes : bytes_in (i ∷ row) ≡ bytes_in row
  pub spacing : gap_since (i ∷ row) ≡ plus (gap_since row) (allowance i)

pub adds_gap : (i : Item) (row : Row) → sort_of i ≡ S.Operator → AddsGap i row
adds_gap (start role) row e = cc
adds_gap (run bytes) row e = cc
adds_gap (gap least greatest) row e = record { landmarks = refl; words = refl; run_bytes = refl; spacing = refl }
adds_gap star row e = record { landmarks = refl; words = refl; run_bytes = refl; spacing = refl }
adds_gap any row e = record { landmarks = refl; words = refl; run_bytes = refl; spacing = refl }
