-- The promise, from what every run leaves.
use Rattle.std.proofs.Common.{◌≡◌, ℕ, ◌≤◌, Bool, true, not, ltb, List, map, length, Some, None, Ok, Err, Option, Result, sym, refl, ap, ◌∙◌, subst, arith}
use Rattle.std.proofs.lemmas.List.{length-map}
use Rattle.std.proofs.lemmas.Bool.Decides.{nat_tests}
use Rattle.std.specs.List.{slice_get}
use Rattle.occurrence.specs.Occurrence.{IsEnd}
use Rattle.occurrence.proofs.SearchLaws.{search_finds_the_end}
use Rattle.finder.specs.declared.finder.Finder.{Ghosts}
use Rattle.landmark.specs.Grammar.{Landmark, landmarks_of, pattern_of}
use Rattle.landmark.specs.declared.refusal.Fault.{Fault}
use Rattle.landmark.specs.declared.refusal.Refusal.TheVariants.{NoSuchLandmark}
use Rattle.plan.specs.Seats.{role_of}
use Rattle.scan.specs.History.{History, Opening, Status, idle, open_on, status, out}
use Rattle.scan.specs.Rules.{Line, facts, end_in, end_at, ask_refusal, out_line, image_line, list_line, line}
use Rattle.scan.specs.Calls.{Upon, Stands, At, Asked}
use Rattle.scan.specs.Runs.{Step, opening, offering, asking, issuing, carrying_out, striking_off, Does, Run, made, next, and_then, history, rule}
use Rattle.scan.specs.Promise.{Enters, EndsAsked, Follows, Kept, Promise}
use Rattle.std.specs.Option.{option_map}
use Rattle.scan.proofs.Lines.{some_none, nth_within, neither, none_out, accepted_out}
use Rattle.scan.proofs.Standing.{upon_leads, upon_ok, settled_leads, call_refused, run_stands, run_words}
use Rattle.scan.proofs.Orders.{Orderly, get_d_map, sound_issue, orderly_opened, orderly_took, orderly_issued, orderly_carried_out, orderly_struck_off}
use Rattle.scan.specs.declared.scan.Scan.{Scan}

-- calls that are refused by the same line and else answer the same have the same answer
upon_same : {A S T : Type 0} (l : Line) (r q : Result A Fault) (x : A) (s : S) (t : T) → Upon l r (λ a. a ≡ x) s s → Upon l q (λ a. a ≡ x) t t → r ≡ q
upon_same (Some f) r q x s t u w = u.0 ∙ sym w.0
upon_same None (Ok a) (Ok b) x s t u w = ap Ok (u ∙ sym w)
upon_same None (Ok a) (Err f) x s t u w = absurd w
upon_same None (Err f) q x s t u w = absurd u

-- a landmark of the list may be asked about
may_ask : (o : Opening) (image : List ℕ) (k : ℕ) (m : Landmark) → slice_get (landmarks_of o.list) k ≡ Some m → ask_refusal (facts (open_on o image)) k ≡ None
may_ask o image k m at =
    let within = nth_within (landmarks_of o.list) k m at in
    let size = length-map (landmarks_of o.list) role_of in
    let below : ltb k (length (map role_of (landmarks_of o.list))) ≡ true = grind (arith, nat_tests) in
    ap (λ (b : Bool). line (not b) NoSuchLandmark k) below

module _ {F : Type 0} (finder : Ghosts F) where
  asked_at : (h : History) (s : Scan F) (k : ℕ) (r : Result (Option ℕ) Fault) (st : Status) → status h ≡ st → Stands finder h s → Asked finder s k r → Upon (ask_refusal (facts st) k) r (λ e. e ≡ end_at (facts st) k) s s
  asked_at h s k r st is stands asked = subst (λ (x : Status). Upon (ask_refusal (facts x) k) r (λ e. e ≡ end_at (facts x) k) s s) is (asked.upon h stands)

  ends_asked : (h : History) (s : Scan F) (o : Opening) (image : List ℕ) → status h ≡ open_on o image → Stands finder h s → EndsAsked finder o image s
  ends_asked h s o image is stands k m at r asked =
      let (e, answer, told) = upon_ok _ r _ s s (may_ask o image k m at) (asked_at h s k r (open_on o image) is stands asked) in
      let found : e ≡ end_in image m = told ∙ get_d_map (end_in image) None (landmarks_of o.list) k m at in
      (e, answer, subst (IsEnd (pattern_of m) image) (sym found) (search_finds_the_end (pattern_of m) image))

  -- no more bytes are taken than were announced
  within : (o : Opening) (image : List ℕ) (s : Scan F) → At finder (open_on o image) s → length image ≤ o.announced
  within o image s (p, _, at) =
      let taken = at.taken in
      let announced = at.announced in
      let room = p.within in
      omega arith

  issue_enters : (st : Status) (s : Scan F) (k e : ℕ) → At finder st s → image_line (facts st) k ≡ None → end_at (facts st) k ≡ Some e → Enters st k e
  issue_enters idle s k e at none is = some_none none
  issue_enters (open_on o image) s k e at none is = sound_issue o image k e (within o image s at) none is

  call_orderly : (v : Step) (h : History) (s t : Scan F) → Stands finder h s → Does finder v s t → Orderly h → Orderly (and_then v h)
  call_orderly (opening list n r) h s t st d i =
      upon_leads finder (λ g _. Orderly g) _ r _ _ h s t
      (λ none _ _. orderly_opened _ h (none_out (out h) (neither (out_line (out h)) _ (neither (list_line list) _ none).1).0) i) i (d.upon h st.order)
  call_orderly (offering place block r) h s t st d i =
      upon_leads finder (λ g _. Orderly g) _ r _ _ h s t (λ none _ _. orderly_took place block h none i) i (d.upon h st)
  call_orderly (asking k r) h s t st d i = i
  call_orderly (issuing k r) h s t st d i =
      upon_leads finder (λ g _. Orderly g) _ r _ _ h s t
      (λ none o (landmark, end, _).
      let (free, rest) = neither (out_line (out h)) _ none in
      orderly_issued o.numbers h (none_out (out h) free)
      (subst (λ (k : ℕ). Enters (status h) k o.numbers.entry) (sym landmark) (issue_enters (status h) s k o.numbers.entry st.scan (neither (image_line (facts (status h)) k) None rest).0 end)) i)
      i (d.upon h st)
  call_orderly (carrying_out o r) h s t st d i =
      settled_leads finder (λ g _. Orderly g) _ o _ r _ _ h s t (λ none _. orderly_carried_out o.numbers h (accepted_out (out h) o.numbers none) i) i (d.upon h st)
  call_orderly (striking_off o r) h s t st d i =
      settled_leads finder (λ g _. Orderly g) _ o _ r _ _ h s t (λ none _. orderly_struck_off o.numbers h (accepted_out (out h) o.numbers none) i) i (d.upon h st)

  run_orderly : {f : F} {vs : List Step} {s : Scan F} → Run finder f vs s → Orderly (history vs)
  run_orderly (made m) = record { sound = tt; out-sound = λ n at. some_none (sym at); balance = refl }
  run_orderly (next {vs = vs} {s = s} {t = t} v run d) = call_orderly v (history vs) s t (run_stands finder run) d (run_orderly run)

  pub run_kept : (f : F) (vs : List Step) (s : Scan F) → Run finder f vs s → Kept finder f vs s
  run_kept f vs s run =
      let st = run_stands finder run in
      let i = run_orderly run in
      record {
        refusals = λ v t d. call_refused finder v (history vs) s t st d ∙ ap (λ (ws : List (List ℕ)). rule ws (history vs) v) (run_words finder run);
        ends = λ o image is. ends_asked (history vs) s o image is st;
        orders = i.sound;
        balance = i.balance;
      }

  follows : (h : History) (s : Scan F) (o : Opening) (image : List ℕ) → status h ≡ open_on o image → Stands finder h s → Follows finder o image s
  follows h s o image is st =
      let at : At finder (open_on o image) s = subst (λ (x : Status). At finder x s) is st.scan in
      record { taken = ap (option_map (λ p. p.taken)) at.1 ∙ ap Some at.2.taken; half = at.2.half; ends = ends_asked h s o image is st }

pub promise : {F G : Type 0} (finder : Ghosts F) (finder' : Ghosts G) → Promise finder finder'
promise finder finder' = record {
  left = run_kept finder;
  right = run_kept finder';
  agreement = λ f g vs us s t o image run run' is is'.
      let st = run_stands finder run in
      let st' = run_stands finder' run' in
      let left = follows finder (history vs) s o image is st in
      let right = follows finder' (history us) t o image is' st' in
      record {
        ends = λ k r q asked asked'. upon_same _ r q _ s t (asked_at finder (history vs) s k r (open_on o image) is st asked) (asked_at finder' (history us) t k q (open_on o image) is' st' asked');
        taken = left.taken ∙ sym right.taken;
        half = left.half ∙ sym right.half;
        left = left;
        right = right;
      };
}
