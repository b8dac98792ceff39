-- What a history makes of a scan, and what each call does: always, and at any history at which the scan stands.
use Rattle.std.specs.Prelude.{◌≡◌, ℕ, ◌+◌, List, [], ◌∷◌, length, take, Some, None, Ok, Err, Option, Result}
use Prim.{tt}
use Rattle.std.specs.Option.{option_map}
use Rattle.finder.specs.Words.{half_read}
use Rattle.finder.specs.declared.finder.Finder.{Ghosts}
use Rattle.landmark.specs.Grammar.{WellFormed, landmarks_of, words_of, all_words}
use Rattle.landmark.specs.declared.refusal.Fault.{Fault}
use Rattle.plan.specs.Seats.{PlanOf, roles_of}
use Rattle.plan.specs.declared.plan.Plan.{Plan}
use Rattle.track.specs.Tracking.{TracksOf}
use Rattle.track.specs.declared.tracks.Tracks.{Tracks}
use Rattle.scan.specs.History.{History, opened, took, issued, carried-out, struck_off, Opening, Status, idle, open_on, status, out}
use Rattle.scan.specs.Rules.{Line, Facts, facts, end_at, open_refusal, offer_refusal, ask_refusal, issue_refusal, settle_refusal}
use Rattle.scan.specs.declared.order.Numbers.{Numbers}
use Rattle.scan.specs.declared.order.Order.{Order}
use Rattle.scan.specs.declared.order.Returned.{Returned}
use Rattle.scan.specs.declared.scan.Progress.{Progress}
use Rattle.scan.specs.declared.scan.Scan.{Scan}

-- refused by a line, and nothing changed; or accepted where no line applies, and then as told
abbrev pub Upon : {A S : Type 0} → Line → Result A Fault → (A → Type 0) → S → S → Type 0
Upon (Some f) r told s t = (r ≡ Err f) × (t ≡ s)
Upon None (Ok a) told s t = told a
Upon None (Err f) told s t = ⊥

-- refused by a line, and the order handed back; or accepted with this answer, and then as told
abbrev pub Settled : {A S : Type 0} → Line → Order → A → Result A Returned → Type 0 → S → S → Type 0
Settled (Some f) o a r told s t = (r ≡ Err (record { fault = f; order = o })) × (t ≡ s)
Settled None o a r told s t = (r ≡ Ok a) × told

-- the ends of a plan's landmarks
abbrev pub ends_of : Plan → Tracks → List (Option ℕ)
ends_of p t = take (length (roles_of p)) t.ends

-- the facts by a scan's own numbers
abbrev pub facts_by : Progress → Facts
facts_by p = record { announced = p.announced; taken = p.taken; roles = roles_of p.plan; ends = ends_of p.plan p.tracks }

-- with so many bytes more taken
pub record Longer (p : Progress) (size : ℕ) (q : Progress) : Type 0 where
  pub taken : q.taken ≡ p.taken + size
  pub announced : q.announced ≡ p.announced
  pub plan : q.plan ≡ p.plan

-- scans over finders of any kind F
module _ {F : Type 0} where
  -- none while idle
  abbrev pub own_facts : Scan F → Option Facts
  own_facts s = option_map facts_by s.progress

  -- the bytes taken, none while idle
  abbrev pub own_taken : Scan F → Option ℕ
  own_taken s = option_map (λ p. p.taken) s.progress

  -- the scan with another order out, and nothing else changed
  abbrev pub with_out : Option Numbers → Scan F → Scan F
  with_out held s = record { finder = s.finder; progress = s.progress; out = held }

  -- the order out is that of the history
  abbrev pub Holds : History → Scan F → Type 0
  Holds h s = s.out ≡ out h

  -- making a scan of a finder
  pub record Made (f : F) (s : Scan F) : Type 0 where
    pub finder : s.finder ≡ f
    pub idle : s.progress ≡ None
    pub free : s.out ≡ None

  -- an open scan goes on with so many bytes more taken
  abbrev pub GoesOn : Scan F → ℕ → Scan F → Type 0
  GoesOn s size t = (p : Progress) × (q : Progress) × (s.progress ≡ Some p) × (t.progress ≡ Some q) × Longer p size q

-- and what the words and half-read lengths of their finders are
module _ {F : Type 0} (finder : Ghosts F) where
  -- a finder and the progress beside it are open by o and have taken the bytes of the image so far
  pub record HasTaken (o : Opening) (image : List ℕ) (f : F) (p : Progress) : Type 0 where
    pub announced : p.announced ≡ o.announced
    pub taken : p.taken ≡ length image
    pub well_formed : WellFormed (landmarks_of o.list)
    pub in_order : words_of o.list ≡ all_words (landmarks_of o.list)
    pub plan : PlanOf p.plan (landmarks_of o.list)
    pub same-words : finder.words f ≡ words_of o.list
    pub half : finder.halves f ≡ half_read (words_of o.list) image
    pub tracks : TracksOf (landmarks_of o.list) image p.tracks

  -- so is a scan
  abbrev pub OpenOn : Opening → List ℕ → Scan F → Type 0
  OpenOn o image s = (p : Progress) × (s.progress ≡ Some p) × HasTaken o image s.finder p

  -- what is taken and found is what the status says
  abbrev pub At : Status → Scan F → Type 0
  At idle s = s.progress ≡ None
  At (open_on o image) s = OpenOn o image s

  -- the scan is what the accepted calls h make of a new one
  pub record Stands (h : History) (s : Scan F) : Type 0 where
    pub scan : At (status h) s
    pub order : Holds h s

  -- opening begins anew, whatever was taken and found
  pub record Opened (s : Scan F) (list : List ℕ) (n : ℕ) (r : Result (Unit {0}) Fault) (t : Scan F) : Type 0 where
    pub always : Upon (open_refusal (finder.words s.finder) s.out list n) r (λ _. (own_facts t ≡ facts (open_on (record { list = list; announced = n }) []))) s t
    pub same_out : t.out ≡ s.out
    pub same-words : finder.words t.finder ≡ finder.words s.finder
    pub upon : (h : History) → Holds h s → Upon (open_refusal (finder.words s.finder) (out h) list n) r (λ _. Stands (opened (record { list = list; announced = n }) ∷ h) t) s t

  -- offering a block at a place
  pub record Offered (s : Scan F) (place : ℕ) (block : List ℕ) (r : Result ℕ Fault) (t : Scan F) : Type 0 where
    pub always : Upon (offer_refusal (own_facts s) place (length block)) r (λ n. (own_taken t ≡ Some n) × GoesOn s (length block) t) s t
    pub same_out : t.out ≡ s.out
    pub same-words : finder.words t.finder ≡ finder.words s.finder
    pub upon : (h : History) → Stands h s → Upon (offer_refusal (facts (status h)) place (length block)) r (λ n. Stands (took block ∷ h) t) s t

  -- asking for the end of a landmark
  pub record Asked (s : Scan F) (k : ℕ) (r : Result (Option ℕ) Fault) : Type 0 where
    pub always : Upon (ask_refusal (own_facts s) k) r (λ e. e ≡ end_at (own_facts s) k) s s
    pub upon : (h : History) → Stands h s → Upon (ask_refusal (facts (status h)) k) r (λ e. e ≡ end_at (facts (status h)) k) s s

  -- issuing an order for a landmark: the order out changes, and nothing else
  pub record Issued (s : Scan F) (k : ℕ) (r : Result Order Fault) (t : Scan F) : Type 0 where
    pub always : Upon (issue_refusal s.out (own_facts s) k) r (λ o. (o.numbers.landmark ≡ k) × (end_at (own_facts s) k ≡ Some o.numbers.entry) × (t ≡ with_out (Some o.numbers) s)) s t
    pub upon : (h : History) → Stands h s → Upon (issue_refusal (out h) (facts (status h)) k) r (λ o. (o.numbers.landmark ≡ k) × (end_at (facts (status h)) k ≡ Some o.numbers.entry) × Stands (issued o.numbers ∷ h) t) s t

  -- carrying an order out: it is spent, and its entry answered
  pub record CarriedOut (s : Scan F) (o : Order) (r : Result ℕ Returned) (t : Scan F) : Type 0 where
    pub always : Settled (settle_refusal s.out o.numbers) o o.numbers.entry r (t ≡ with_out None s) s t
    pub upon : (h : History) → Stands h s → Settled (settle_refusal (out h) o.numbers) o o.numbers.entry r (Stands (carried-out o.numbers o.numbers.entry ∷ h) t) s t

  -- striking an order off: it is spent
  pub record StruckOff (s : Scan F) (o : Order) (r : Result (Unit {0}) Returned) (t : Scan F) : Type 0 where
    pub always : Settled (settle_refusal s.out o.numbers) o tt r (t ≡ with_out None s) s t
    pub upon : (h : History) → Stands h s → Settled (settle_refusal (out h) o.numbers) o tt r (Stands (struck_off o.numbers ∷ h) t) s t
