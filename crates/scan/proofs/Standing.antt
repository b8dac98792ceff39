-- Every run leaves a scan that stands at its history, and further calls on it are refused by the rules.
use Rattle.std.proofs.Common.{◌≡◌, List, ◌∷◌, Some, None, Ok, Err, Result, sym, refl, ap, ◌∙◌, subst}
use Rattle.finder.specs.declared.finder.Finder.{Ghosts}
use Rattle.landmark.specs.declared.refusal.Fault.{Fault}
use Rattle.scan.specs.History.{History, Event}
use Rattle.scan.specs.Rules.{Line, refusal}
use Rattle.scan.specs.Calls.{Upon, Settled, Stands, with_out}
use Rattle.scan.specs.Runs.{Step, opening, offering, asking, issuing, carrying_out, striking_off, Does, Run, made, next, on_ok, and_then, history, refused, refusal_back, rule}
use Rattle.scan.proofs.Lines.{some_none}
use Rattle.scan.specs.declared.order.Order.{Order}
use Rattle.scan.specs.declared.order.Returned.{Returned}
use Rattle.scan.specs.declared.scan.Scan.{Scan}

-- a call that is accepted exactly where no line applies is refused by that line
pub upon_refusal : {A S : Type 0} (l : Line) (r : Result A Fault) (told : A → Type 0) (s t : S) → Upon l r told s t → refusal r ≡ l
upon_refusal (Some f) r told s t u = ap refusal u.0
upon_refusal None (Ok a) told s t u = refl
upon_refusal None (Err f) told s t u = absurd u

-- an accepted call does as told
pub upon_told : {A S : Type 0} (l : Line) (a : A) (told : A → Type 0) (s t : S) → Upon l (Ok a) told s t → told a
upon_told (Some f) a told s t u = cc u.0
upon_told None a told s t u = u

-- a call that no line refuses answers, and as told
pub upon_ok : {A S : Type 0} (l : Line) (r : Result A Fault) (told : A → Type 0) (s t : S) → l ≡ None → Upon l r told s t → (a : A) × (r ≡ Ok a) × told a
upon_ok (Some f) r told s t none u = some_none none
upon_ok None (Ok a) told s t none u = (a, refl, u)
upon_ok None (Err f) told s t none u = absurd u

pub settled_refusal : {A S : Type 0} (l : Line) (o : Order) (a : A) (r : Result A Returned) (told : Type 0) (s t : S) → Settled l o a r told s t → refusal_back r ≡ l
settled_refusal (Some f) o a r told s t u = ap refusal_back u.0
settled_refusal None o a r told s t u = ap refusal_back u.0

module _ {F : Type 0} (finder : Ghosts F) where
  -- what holds of every scan at a history holds after a call, at the history that the call leads to
  pub upon_leads : {A : Type 0} (P : History → Scan F → Type 0) (l : Line) (r : Result A Fault) (told : A → Type 0) (event : A → Event) (h : History) (s t : Scan F) → (l ≡ None → (a : A) → told a → P (event a ∷ h) t) → P h s → Upon l r told s t → P (on_ok r event h) t
  upon_leads P (Some f) r told event h s t leads st u =
      subst (λ (x : Result _ Fault). P (on_ok x event h) t) (sym u.0) (subst (P h) (sym u.1) st)
  upon_leads P None (Ok a) told event h s t leads st u = leads refl a u
  upon_leads P None (Err f) told event h s t leads st u = absurd u

  pub settled_leads : {A : Type 0} (P : History → Scan F → Type 0) (l : Line) (o : Order) (a : A) (r : Result A Returned) (told : Type 0) (event : A → Event) (h : History) (s t : Scan F) → (l ≡ None → told → P (event a ∷ h) t) → P h s → Settled l o a r told s t → P (on_ok r event h) t
  settled_leads P (Some f) o a r told event h s t leads st u =
      subst (λ (x : Result _ Returned). P (on_ok x event h) t) (sym u.0) (subst (P h) (sym u.1) st)
  settled_leads P None o a r told event h s t leads st u =
      subst (λ (x : Result _ Returned). P (on_ok x event h) t) (sym u.0) (leads refl u.1)

  abbrev St : History → Scan F → Type 0
  St h s = Stands finder h s

  pub call_stands : (v : Step) (h : History) (s t : Scan F) → Stands finder h s → Does finder v s t → Stands finder (and_then v h) t
  call_stands (opening list n r) h s t st d = upon_leads St _ r _ _ h s t (λ _ _ x. x) st (d.upon h st.order)
  call_stands (offering place block r) h s t st d = upon_leads St _ r _ _ h s t (λ _ _ x. x) st (d.upon h st)
  call_stands (asking k r) h s t st d = subst (St h) (sym d.1) st
  call_stands (issuing k r) h s t st d = upon_leads St _ r _ _ h s t (λ _ _ x. x.2) st (d.upon h st)
  call_stands (carrying_out o r) h s t st d = settled_leads St _ o _ r _ _ h s t (λ _ x. x) st (d.upon h st)
  call_stands (striking_off o r) h s t st d = settled_leads St _ o _ r _ _ h s t (λ _ x. x) st (d.upon h st)

  pub call_refused : (v : Step) (h : History) (s t : Scan F) → Stands finder h s → Does finder v s t → refused v ≡ rule (finder.words s.finder) h v
  call_refused (opening list n r) h s t st d = upon_refusal _ r _ s t (d.upon h st.order)
  call_refused (offering place block r) h s t st d = upon_refusal _ r _ s t (d.upon h st)
  call_refused (asking k r) h s t st d = upon_refusal _ r _ s s (d.0.upon h st)
  call_refused (issuing k r) h s t st d = upon_refusal _ r _ s t (d.upon h st)
  call_refused (carrying_out o r) h s t st d = settled_refusal _ o _ r _ s t (d.upon h st)
  call_refused (striking_off o r) h s t st d = settled_refusal _ o _ r _ s t (d.upon h st)

  -- no call changes the finder's words
  upon_words : {A : Type 0} (l : Line) (r : Result A Fault) (told : A → Type 0) (s t : Scan F) → ((a : A) → told a → finder.words t.finder ≡ finder.words s.finder) → Upon l r told s t → finder.words t.finder ≡ finder.words s.finder
  upon_words (Some f) r told s t kept u = ap (λ (x : Scan F). finder.words x.finder) u.1
  upon_words None (Ok a) told s t kept u = kept a u
  upon_words None (Err f) told s t kept u = absurd u

  settled_words : {A : Type 0} (l : Line) (o : Order) (a : A) (r : Result A Returned) (s t : Scan F) → Settled l o a r (t ≡ with_out None s) s t → finder.words t.finder ≡ finder.words s.finder
  settled_words (Some f) o a r s t u = ap (λ (x : Scan F). finder.words x.finder) u.1
  settled_words None o a r s t u = ap (λ (x : Scan F). finder.words x.finder) u.1

  pub call_words : (v : Step) (s t : Scan F) → Does finder v s t → finder.words t.finder ≡ finder.words s.finder
  call_words (opening list n r) s t d = d.same-words
  call_words (offering place block r) s t d = d.same-words
  call_words (asking k r) s t d = ap (λ (x : Scan F). finder.words x.finder) d.1
  call_words (issuing k r) s t d = upon_words _ r _ s t (λ o told. ap (λ (x : Scan F). finder.words x.finder) told.2) d.always
  call_words (carrying_out o r) s t d = settled_words _ o _ r s t d.always
  call_words (striking_off o r) s t d = settled_words _ o _ r s t d.always

  pub run_words : {f : F} {vs : List Step} {s : Scan F} → Run finder f vs s → finder.words s.finder ≡ finder.words f
  run_words (made m) = ap finder.words m.finder
  run_words (next {s = s} {t = t} v run d) = call_words v s t d ∙ run_words run

  pub run_stands : {f : F} {vs : List Step} {s : Scan F} → Run finder f vs s → Stands finder (history vs) s
  run_stands (made m) = record { scan = m.idle; order = m.free }
  run_stands (next {vs = vs} {s = s} {t = t} v run d) = call_stands v (history vs) s t (run_stands run) d
