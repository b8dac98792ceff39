-- What has been accepted on a scan since it was made, the newest first, and what that comes to.
use Rattle.std.specs.Prelude.{ℕ, ◌+◌, List, [], ◌∷◌, ◌++◌, Some, None, Option}
use Rattle.scan.specs.declared.order.Numbers.{Numbers}

-- what a scan was opened with
pub record Opening : Type 0 where
  pub list : List ℕ
  pub announced : ℕ

-- a call that was accepted; carrying out with the entry that it answered
pub data Event : Type 0 where
  opened : Opening → Event
  took : List ℕ → Event
  issued : Numbers → Event
  carried-out : Numbers → ℕ → Event
  struck_off : Numbers → Event

abbrev pub History : Type 0
History = List Event

-- idle, or open by the last opening with the bytes taken since
pub data Status : Type 0 where
  idle : Status
  open_on : Opening → List ℕ → Status

-- with a block taken
abbrev pub longer : Status → List ℕ → Status
longer idle block = idle
longer (open_on o image) block = open_on o (image ++ block)

abbrev pub status : History → Status
status [] = idle
status (opened o ∷ h) = open_on o []
status (took block ∷ h) = longer (status h) block
status (issued n ∷ h) = status h
status (carried-out n e ∷ h) = status h
status (struck_off n ∷ h) = status h

-- the order that is out
abbrev pub out : History → Option Numbers
out [] = None
out (opened o ∷ h) = out h
out (took block ∷ h) = out h
out (issued n ∷ h) = Some n
out (carried-out n e ∷ h) = None
out (struck_off n ∷ h) = None

-- how many orders are out: none or one
abbrev pub outs : Option Numbers → ℕ
outs None = 0
outs (Some n) = 1

-- how many orders were issued, carried out and struck off
abbrev pub issuings : History → ℕ
issuings [] = 0
issuings (opened o ∷ h) = issuings h
issuings (took block ∷ h) = issuings h
issuings (issued n ∷ h) = issuings h + 1
issuings (carried-out n e ∷ h) = issuings h
issuings (struck_off n ∷ h) = issuings h

abbrev pub carryings : History → ℕ
carryings [] = 0
carryings (opened o ∷ h) = carryings h
carryings (took block ∷ h) = carryings h
carryings (issued n ∷ h) = carryings h
carryings (carried-out n e ∷ h) = carryings h + 1
carryings (struck_off n ∷ h) = carryings h

abbrev pub strikings : History → ℕ
strikings [] = 0
strikings (opened o ∷ h) = strikings h
strikings (took block ∷ h) = strikings h
strikings (issued n ∷ h) = strikings h
strikings (carried-out n e ∷ h) = strikings h
strikings (struck_off n ∷ h) = strikings h + 1
