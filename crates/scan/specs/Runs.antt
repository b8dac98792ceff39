-- Calls on a scan in any sequence, each upon what those before it left, with their answers.
use Rattle.std.specs.Prelude.{◌≡◌, ℕ, List, [], ◌∷◌, length, Some, None, Ok, Err, Option, Result}
use Rattle.finder.specs.declared.finder.Finder.{Ghosts}
use Rattle.landmark.specs.declared.refusal.Fault.{Fault}
use Rattle.scan.specs.History.{History, Event, opened, took, issued, carried-out, struck_off, status, out}
use Rattle.scan.specs.Rules.{Line, facts, refusal, open_refusal, offer_refusal, ask_refusal, issue_refusal, settle_refusal}
use Rattle.scan.specs.Calls.{Made, Opened, Offered, Asked, Issued, CarriedOut, StruckOff}
use Rattle.scan.specs.declared.order.Order.{Order}
use Rattle.scan.specs.declared.order.Returned.{Returned}
use Rattle.scan.specs.declared.scan.Scan.{Scan}

-- a call with its answer
pub data Step : Type 0 where
  opening : List ℕ → ℕ → Result (Unit {0}) Fault → Step
  offering : ℕ → List ℕ → Result ℕ Fault → Step
  asking : ℕ → Result (Option ℕ) Fault → Step
  issuing : ℕ → Result Order Fault → Step
  carrying_out : Order → Result ℕ Returned → Step
  striking_off : Order → Result (Unit {0}) Returned → Step

-- an accepted call makes the history longer by what it answered, a refused one does not
abbrev pub on_ok : {A E : Type 0} → Result A E → (A → Event) → History → History
on_ok (Ok a) event h = event a ∷ h
on_ok (Err f) event h = h

abbrev pub and_then : Step → History → History
and_then (opening list n r) h = on_ok r (λ _. opened (record { list = list; announced = n })) h
and_then (offering place block r) h = on_ok r (λ _. took block) h
and_then (asking k r) h = h
and_then (issuing k r) h = on_ok r (λ o. issued o.numbers) h
and_then (carrying_out o r) h = on_ok r (λ e. carried-out o.numbers e) h
and_then (striking_off o r) h = on_ok r (λ _. struck_off o.numbers) h

-- what was accepted of the calls, the newest first
abbrev pub history : List Step → History
history [] = []
history (v ∷ vs) = and_then v (history vs)

abbrev pub refusal_back : {A : Type 0} → Result A Returned → Line
refusal_back (Ok a) = None
refusal_back (Err b) = Some b.fault

-- how a call was refused
abbrev pub refused : Step → Line
refused (opening list n r) = refusal r
refused (offering place block r) = refusal r
refused (asking k r) = refusal r
refused (issuing k r) = refusal r
refused (carrying_out o r) = refusal_back r
refused (striking_off o r) = refusal_back r

-- how the rules refuse it at a history, over a finder of these words
abbrev pub rule : List (List ℕ) → History → Step → Line
rule ws h (opening list n r) = open_refusal ws (out h) list n
rule ws h (offering place block r) = offer_refusal (facts (status h)) place (length block)
rule ws h (asking k r) = ask_refusal (facts (status h)) k
rule ws h (issuing k r) = issue_refusal (out h) (facts (status h)) k
rule ws h (carrying_out o r) = settle_refusal (out h) o.numbers
rule ws h (striking_off o r) = settle_refusal (out h) o.numbers

-- scans over finders of any kind F
module _ {F : Type 0} (finder : Ghosts F) where
  -- the call leads from one scan to another, by what the call itself ensures
  abbrev pub Does : Step → Scan F → Scan F → Type 0
  Does (opening list n r) s t = Opened finder s list n r t
  Does (offering place block r) s t = Offered finder s place block r t
  Does (asking k r) s t = Asked finder s k r × (t ≡ s)
  Does (issuing k r) s t = Issued finder s k r t
  Does (carrying_out o r) s t = CarriedOut finder s o r t
  Does (striking_off o r) s t = StruckOff finder s o r t

  -- a scan made of the finder f, and then these calls, the newest first
  pub data Run (f : F) : List Step → Scan F → Type 0 where
    made : {s : Scan F} → Made f s → Run f [] s
    next : {vs : List Step} {s t : Scan F} (v : Step) → Run f vs s → Does v s t → Run f (v ∷ vs) t
