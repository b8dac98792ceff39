-- Where each call on a scan is refused: the earliest line that applies, with its detail.
use Rattle.std.specs.Prelude.{ℕ, suc, ◌+◌, Bool, true, false, cond, not, ◌&&◌, ◌||◌, List, [], ◌∷◌, map, length, Some, None, Ok, Err, Option, Result, ◌==◌, nat_lt, slice_index_or}
use Rattle.std.specs.List.{slice_get}
use Rattle.occurrence.specs.Search.{end_of}
use Rattle.finder.specs.Words.{same}
use Rattle.landmark.specs.Records.{or_else}
use Rattle.landmark.specs.Lists.{fault, list_verdict}
use Rattle.landmark.specs.Grammar.{Landmark, landmarks_of, words_of, pattern_of}
use Rattle.landmark.specs.declared.element.Role.{Role}
use Rattle.landmark.specs.declared.element.Role.TheVariants.{Entry, Bar}
use Rattle.landmark.specs.declared.refusal.Fault.{Fault}
use Rattle.landmark.specs.declared.refusal.Refusal.{Refusal}
use Rattle.landmark.specs.declared.refusal.Refusal.TheVariants.{OrderOut, BadLength, OtherWords, Idle, WrongPlace, Overrun, NoSuchLandmark, NotAnEntry, BytesMissing, Barred, NoEnd, EndAtLength, OtherOrder}
use Rattle.plan.specs.Seats.{role_of}
use Rattle.scan.specs.Announced.{most_announced}
use Rattle.scan.specs.History.{Opening, Status, idle, open_on}
use Rattle.scan.specs.declared.order.Numbers.{Numbers}

-- a line of the rules at a call: none where it does not apply
abbrev pub Line : Type 0
Line = Option Fault

abbrev pub line : Bool → Refusal → ℕ → Line
line applies why detail = cond applies (Some (fault why detail)) None

abbrev pub earliest : List Line → Line
earliest [] = None
earliest (l ∷ ls) = or_else l (earliest ls)

-- what the rules ask of a scan that is open: the announced length, the bytes taken, each landmark's role and end
pub record Facts : Type 0 where
  pub announced : ℕ
  pub taken : ℕ
  pub roles : List Role
  pub ends : List (Option ℕ)

abbrev pub end_in : List ℕ → Landmark → Option ℕ
end_in image m = end_of (pattern_of m) image

-- the facts that an opening and the bytes since define; none while idle
abbrev pub facts_on : Opening → List ℕ → Facts
facts_on o image = record { announced = o.announced; taken = length image; roles = map role_of (landmarks_of o.list); ends = map (end_in image) (landmarks_of o.list) }

abbrev pub facts : Status → Option Facts
facts idle = None
facts (open_on o image) = Some (facts_on o image)

-- why a call was refused, by its answer
abbrev pub refusal : {A : Type 0} → Result A Fault → Line
refusal (Ok a) = None
refusal (Err f) = Some f

-- the first fault of a list
abbrev pub list_line : List ℕ → Line
list_line list = refusal (list_verdict list)

-- an order is out
abbrev pub out_line : Option Numbers → Line
out_line None = None
out_line (Some n) = Some (fault OrderOut n.landmark)

-- the first word, from number k on, that differs or is missing on one side
abbrev pub first_other : ℕ → List (List ℕ) → List (List ℕ) → Option ℕ
first_other k [] [] = None
first_other k [] (w ∷ ws) = Some k
first_other k (v ∷ vs) [] = Some k
first_other k (v ∷ vs) (w ∷ ws) = cond (same v w) (first_other (suc k) vs ws) (Some k)

abbrev pub words_line : Option ℕ → Line
words_line None = None
words_line (Some k) = Some (fault OtherWords k)

-- opening, by the finder's words, the order out, the list and the announced length
abbrev pub open_refusal : List (List ℕ) → Option Numbers → List ℕ → ℕ → Line
open_refusal ws held list n =
    earliest (list_line list ∷ out_line held ∷ line (n == 0 || nat_lt most_announced n) BadLength n ∷ words_line (first_other 0 ws (words_of list)) ∷ [])

-- offering so many bytes at a place
abbrev pub offer_refusal : Option Facts → ℕ → ℕ → Line
offer_refusal None place size = Some (fault Idle 0)
offer_refusal (Some f) place size =
    earliest (line (not (place == f.taken)) WrongPlace f.taken ∷ line (nat_lt f.announced (f.taken + size)) Overrun f.announced ∷ [])

-- asking about a landmark
abbrev pub ask_refusal : Option Facts → ℕ → Line
ask_refusal None k = Some (fault Idle 0)
ask_refusal (Some f) k = line (not (nat_lt k (length f.roles))) NoSuchLandmark k

-- the end of a landmark, by the facts
abbrev pub end_at : Option Facts → ℕ → Option ℕ
end_at None k = None
end_at (Some f) k = slice_index_or f.ends k None

abbrev pub is_bar : Role → Bool
is_bar Entry = false
is_bar Bar = true

abbrev pub has_end : Option ℕ → Bool
has_end None = false
has_end (Some e) = true

-- a landmark of this role and this end is a bar that has an end
abbrev pub bar_with_end : Option Role → Option ℕ → Bool
bar_with_end None e = false
bar_with_end (Some r) e = is_bar r && has_end e

-- the lowest bar, from number k on, that has an end
abbrev pub barred_line : ℕ → List Role → List (Option ℕ) → Line
barred_line k [] es = None
barred_line k (r ∷ rs) [] = None
barred_line k (r ∷ rs) (e ∷ es) = or_else (line (is_bar r && has_end e) Barred k) (barred_line (suc k) rs es)

-- the same by the number of that bar
abbrev pub barred_by : Option ℕ → Line
barred_by None = None
barred_by (Some k) = Some (fault Barred k)

-- the landmark's own end is missing, or it is the image's length
abbrev pub end_line : Option ℕ → ℕ → ℕ → Line
end_line None k taken = Some (fault NoEnd k)
end_line (Some e) k taken = line (e == taken) EndAtLength e

abbrev pub role_line : Option Role → ℕ → Line
role_line None k = Some (fault NoSuchLandmark k)
role_line (Some r) k = line (is_bar r) NotAnEntry k

abbrev pub image_line : Option Facts → ℕ → Line
image_line None k = Some (fault Idle 0)
image_line (Some f) k =
    earliest (role_line (slice_get f.roles k) k ∷ line (nat_lt f.taken f.announced) BytesMissing f.taken ∷ barred_line 0 f.roles f.ends ∷ end_line (slice_index_or f.ends k None) k f.taken ∷ [])

-- issuing an order for a landmark
abbrev pub issue_refusal : Option Numbers → Option Facts → ℕ → Line
issue_refusal held f k = earliest (out_line held ∷ image_line f k ∷ [])

abbrev pub same_numbers : Option Numbers → Numbers → Bool
same_numbers None n = false
same_numbers (Some m) n = m.landmark == n.landmark && m.entry == n.entry

-- carrying out or striking off an order, by the order that is out
abbrev pub settle_refusal : Option Numbers → Numbers → Line
settle_refusal held n = line (not (same_numbers held n)) OtherOrder n.entry
