-- A row of calls on one scan, and the steps of a run that they are.
use Rattle.std.specs.Prelude.{◌≡◌, ℕ, min, List, [], ◌∷◌, ◌++◌, length, take, drop, Some, None, Ok, Err, Option, Result}
use Rattle.finder.specs.declared.finder.Finder.{Ghosts}
use Rattle.landmark.specs.declared.refusal.Fault.{Fault}
use Rattle.scan.specs.History.{out}
use Rattle.scan.specs.Runs.{Step, opening, offering, asking, issuing, carrying_out, striking_off, Does, Run, history}
use Rattle.scan.specs.declared.order.Numbers.{Numbers}
use Rattle.scan.specs.declared.order.Order.{Order}
use Rattle.scan.specs.declared.order.Returned.{Returned}
use Rattle.scan.specs.declared.scan.Scan.{Scan}
use Rattle.calls.specs.Held.{numbers_held}
use Rattle.calls.specs.declared.call.Answer.{Answer}
use Rattle.calls.specs.declared.call.Answer.TheVariants as A
use Rattle.calls.specs.declared.call.Call.{Call}
use Rattle.calls.specs.declared.holder.Holder.{Holder}
use Rattle.calls.specs.declared.call.Call.TheVariants.{Open, Offer, Ask, Issue, CarryOut, StrikeOff}

-- answers in plain numbers
abbrev pub numbered : Result Order Fault → Result Numbers Fault
numbered (Ok o) = Ok o.numbers
numbered (Err f) = Err f

abbrev pub plain : {A : Type 0} → Result A Returned → Result A Fault
plain (Ok a) = Ok a
plain (Err b) = Err b.fault

-- settling the order that is out is a step; where none is out there is nothing to settle
abbrev pub Settles : {A : Type 0} → Option Numbers → (Order → Result A Returned → Step) → (Result A Fault → Answer) → Answer → List Step → Type 0
Settles None step told a vs = (a ≡ A.Nothing) × (vs ≡ [])
Settles (Some n) step told a vs = (r : Result _ Returned) × (a ≡ told (plain r)) × (vs ≡ step (record { numbers = n }) r ∷ [])

-- a call and its answer, made while this order is out, are these steps: one or none
abbrev pub IsSteps : Option Numbers → Call → Answer → List Step → Type 0
IsSteps held (Open list n) a vs = (r : Result (Unit {0}) Fault) × (a ≡ A.Opened r) × (vs ≡ opening list.now n r ∷ [])
IsSteps held (Offer place block) a vs = (r : Result ℕ Fault) × (a ≡ A.Taken r) × (vs ≡ offering place block.now r ∷ [])
IsSteps held (Ask k) a vs = (r : Result (Option ℕ) Fault) × (a ≡ A.End r) × (vs ≡ asking k r ∷ [])
IsSteps held (Issue k) a vs = (r : Result Order Fault) × (a ≡ A.Issued (numbered r)) × (vs ≡ issuing k r ∷ [])
IsSteps held CarryOut a vs = Settles held carrying_out A.CarriedOut a vs
IsSteps held StrikeOff a vs = Settles held striking_off A.StruckOff a vs

-- calls in order with their answers are these steps of a run, the newest first
pub data Row : List Call → List Answer → List Step → Type 0 where
  none : Row [] [] []
  more : {cs : List Call} {answers : List Answer} {vs : List Step} (c : Call) (a : Answer) (ws : List Step) → Row cs answers vs → IsSteps (out (history vs)) c a ws → Row (cs ++ (c ∷ [])) (answers ++ (a ∷ [])) (ws ++ vs)

module _ {F : Type 0} (finder : Ghosts F) where
  -- steps, the newest first, lead from one scan to another
  abbrev pub DoesAll : List Step → Scan F → Scan F → Type 0
  DoesAll [] s t = t ≡ s
  DoesAll (v ∷ vs) s t = (u : Scan F) × DoesAll vs s u × Does finder v u t

  -- what one call does to a scan whose order out is held: its answer, and its steps
  pub record Makes (s : Holder F) (call : Call) (answer : Answer) (t : Holder F) : Type 0 where
    pub steps : List Step
    pub is : IsSteps (numbers_held s.order) call answer steps
    pub does : DoesAll steps s.scan t.scan

  -- a row of calls on a scan made of f, as far as there is room for answers: a run with exactly these calls and answers leads to the scan
  pub record RanRow (f : F) (calls : List Call) (before after : List Answer) (order : Option Order) (t : Scan F) : Type 0 where
    pub steps : List Step
    pub run : Run finder f steps t
    pub row : Row (take (min (length calls) (length before)) calls) (take (min (length calls) (length before)) after) steps
    pub rest : drop (min (length calls) (length before)) after ≡ drop (min (length calls) (length before)) before
    pub held : numbers_held order ≡ out (history steps)
