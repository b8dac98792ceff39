-- A whole list: its records in order, and how it is judged, record by record.
use Rattle.std.specs.Prelude.{ℕ, zero, suc, ◌+◌, Bool, true, false, cond, not, ◌||◌, List, [], ◌∷◌, length, Some, None, Ok, Err, Option, Result, nat_le, nat_lt}
use Rattle.occurrence.specs.Occurrence.{Gap}
use Rattle.landmark.specs.Records.{Item, start, run, gap, star, any, item_at, after, or_else, widest_gap}
use Rattle.landmark.specs.declared.list.Counts.{Counts}
use Rattle.landmark.specs.declared.judge.Sort.{Sort}
use Rattle.landmark.specs.declared.judge.Sort.TheVariants as S
use Rattle.landmark.specs.declared.refusal.Refusal.{Refusal}
use Rattle.landmark.specs.declared.refusal.Refusal.TheVariants.{Misplaced, GapTooWide, TooMany}
use Rattle.landmark.specs.declared.refusal.Fault.{Fault}

abbrev pub most_landmarks : ℕ
most_landmarks = 32

abbrev pub most_words : ℕ
most_words = 64

abbrev pub fault : Refusal → ℕ → Fault
fault why detail = record { refusal = why; detail = detail }

-- the records of a list from a place on, each with its place, up to the list's end or to a place where no record stands
pub data Parts : Type 0 where
  ended : Parts
  broken : Refusal → ℕ → Parts
  part : ℕ → Item → Parts → Parts

abbrev pub part_of : Result Item Refusal → ℕ → Parts → Parts
part_of (Ok i) p rest = part p i rest
part_of (Err why) p rest = broken why p

-- at most so many records
abbrev pub parts : ℕ → List ℕ → ℕ → Parts
parts zero l p = ended
parts (suc most) l p = cond (nat_le (length l) p) ended (part_of (item_at l p) p (parts most l (after l p)))

-- a list has no more records than bytes
abbrev pub parts_from : List ℕ → ℕ → Parts
parts_from l p = parts (suc (length l)) l p

-- the records already judged, the newest first
abbrev pub Row : Type 0
Row = List Item

abbrev pub sort_of : Item → Sort
sort_of (start role) = S.Start
sort_of (run bytes) = S.Run
sort_of (gap least greatest) = S.Operator
sort_of star = S.Operator
sort_of any = S.Operator

abbrev pub newest : Row → Option Sort
newest [] = None
newest (i ∷ row) = Some (sort_of i)

-- what a row counts
abbrev pub landmarks_in : Row → ℕ
landmarks_in [] = 0
landmarks_in (start role ∷ row) = landmarks_in row + 1
landmarks_in (run bytes ∷ row) = landmarks_in row
landmarks_in (gap least greatest ∷ row) = landmarks_in row
landmarks_in (star ∷ row) = landmarks_in row
landmarks_in (any ∷ row) = landmarks_in row

abbrev pub words_in : Row → ℕ
words_in [] = 0
words_in (start role ∷ row) = words_in row
words_in (run bytes ∷ row) = words_in row + 1
words_in (gap least greatest ∷ row) = words_in row
words_in (star ∷ row) = words_in row
words_in (any ∷ row) = words_in row

abbrev pub bytes_in : Row → ℕ
bytes_in [] = 0
bytes_in (start role ∷ row) = bytes_in row
bytes_in (run bytes ∷ row) = bytes_in row + length bytes
bytes_in (gap least greatest ∷ row) = bytes_in row
bytes_in (star ∷ row) = bytes_in row
bytes_in (any ∷ row) = bytes_in row

abbrev pub counts : Row → Counts
counts row = record { landmarks = landmarks_in row; words = words_in row; run_bytes = bytes_in row }

-- how many bytes an operator stands for: a gap between its counts, a star any number, an any exactly one
abbrev pub no_gap : Gap
no_gap = record { least = 0; greatest = Some 0 }

abbrev pub allowance : Item → Gap
allowance (start role) = no_gap
allowance (run bytes) = no_gap
allowance (gap least greatest) = record { least = least; greatest = Some greatest }
allowance star = record { least = 0; greatest = None }
allowance any = record { least = 1; greatest = Some 1 }

-- gaps one behind the other add up, and are open where one is
abbrev pub both : Option ℕ → Option ℕ → Option ℕ
both None n = None
both (Some m) None = None
both (Some m) (Some n) = Some (m + n)

abbrev pub plus : Gap → Gap → Gap
plus g h = record { least = g.least + h.least; greatest = both g.greatest h.greatest }

-- the gap that the operators since the last run or start make up
abbrev pub gap_since : Row → Gap
gap_since [] = no_gap
gap_since (start role ∷ row) = no_gap
gap_since (run bytes ∷ row) = no_gap
gap_since (gap least greatest ∷ row) = plus (gap_since row) (allowance (gap least greatest))
gap_since (star ∷ row) = plus (gap_since row) (allowance star)
gap_since (any ∷ row) = plus (gap_since row) (allowance any)

abbrev pub exceeds : Option ℕ → Bool
exceeds None = false
exceeds (Some greatest) = nat_lt widest_gap greatest

abbrev pub too_wide : Gap → Bool
too_wide g = nat_lt widest_gap g.least || exceeds g.greatest

-- a list begins with a start, a run follows a start, and no start follows an operator
abbrev pub may_follow : Option Sort → Sort → Bool
may_follow None S.Start = true
may_follow None S.Run = false
may_follow None S.Operator = false
may_follow (Some S.Start) S.Start = false
may_follow (Some S.Start) S.Run = true
may_follow (Some S.Start) S.Operator = false
may_follow (Some S.Run) S.Start = true
may_follow (Some S.Run) S.Run = true
may_follow (Some S.Run) S.Operator = true
may_follow (Some S.Operator) S.Start = false
may_follow (Some S.Operator) S.Run = true
may_follow (Some S.Operator) S.Operator = true

abbrev pub closes_too_wide : Row → Sort → Bool
closes_too_wide row S.Start = false
closes_too_wide row S.Run = too_wide (gap_since row)
closes_too_wide row S.Operator = false

abbrev pub is_one_too_many : Row → Sort → Bool
is_one_too_many row S.Start = nat_le most_landmarks (landmarks_in row)
is_one_too_many row S.Run = nat_le most_words (words_in row)
is_one_too_many row S.Operator = false

-- a line of the rules: none where it does not apply
abbrev pub line : Bool → Refusal → Option Refusal
line applies why = cond applies (Some why) None

-- why a record may not stand behind the row: the earliest line that applies
abbrev pub row_refusal : Row → Sort → Option Refusal
row_refusal row s =
    or_else (line (not (may_follow (newest row) s)) Misplaced) (or_else (line (closes_too_wide row s) GapTooWide) (line (is_one_too_many row s) TooMany))

-- a list ends behind a run
abbrev pub ends_well : Option Sort → Bool
ends_well None = false
ends_well (Some S.Start) = false
ends_well (Some S.Run) = true
ends_well (Some S.Operator) = false

abbrev pub unless : Option Refusal → ℕ → Result Counts Fault → Result Counts Fault
unless (Some why) p r = Err (fault why p)
unless None p r = r

-- the records that follow the row, judged one after another; size is the list's length
abbrev pub judged : ℕ → Row → Parts → Result Counts Fault
judged size row ended = cond (ends_well (newest row)) (Ok (counts row)) (Err (fault Misplaced size))
judged size row (broken why p) = Err (fault why p)
judged size row (part p i rest) = unless (row_refusal row (sort_of i)) p (judged size (i ∷ row) rest)

-- a list's counts, or its first fault
abbrev pub list_verdict : List ℕ → Result Counts Fault
list_verdict l = judged (length l) [] (parts_from l 0)
