-- What a call does by the scan's own numbers, it does at any history at which the scan stands.
use Rattle.std.proofs.Common.{◌≡◌, ℕ, ◌∷◌, Some, None, Ok, Err, Option, Result, sym, refl, ap, ◌∙◌, subst}
use Prim.{tt}
use Rattle.finder.specs.declared.finder.Finder.{Ghosts}
use Rattle.landmark.specs.declared.refusal.Fault.{Fault}
use Rattle.scan.specs.History.{History, Event, issued, carried-out, struck_off, Status, idle, open_on, status, out}
use Rattle.scan.specs.Rules.{Line, refusal, end_at, ask_refusal, issue_refusal, settle_refusal}
use Rattle.scan.specs.Calls.{Upon, Settled, At, Stands, Asked, Issued, CarriedOut, StruckOff, own_facts, with_out}
use Rattle.scan.proofs.Asking.{answered, refused-by}
use Rattle.scan.proofs.Facts.{own_is}
use Rattle.scan.proofs.Standing.{upon_refusal, upon_told}
use Rattle.scan.specs.declared.order.Numbers.{Numbers}
use Rattle.scan.specs.declared.order.Order.{Order}
use Rattle.scan.specs.declared.order.Returned.{Returned}
use Rattle.scan.specs.declared.scan.Scan.{Scan}

-- by an equal line, and with what follows from what was told
pub upon_so : {A S : Type 0} (l m : Line) (r : Result A Fault) (told so : A → Type 0) (s t : S) → l ≡ m → ((a : A) → told a → so a) → Upon l r told s t → Upon m r so s t
upon_so l m r told so s t same follows u = subst (λ (x : Line). Upon x r so s t) same (weaker l r u)
  where
    weaker : (l : Line) (r : Result _ Fault) → Upon l r told s t → Upon l r so s t
    weaker (Some f) r u = u
    weaker None (Ok a) u = follows a u
    weaker None (Err f) u = u

-- a refusal that is passed on
pub passed_on : {A B S : Type 0} (l : Line) (f : Fault) (r : Result A Fault) (told : A → Type 0) (q : Result B Fault) (so : B → Type 0) (s : S) → r ≡ Err f → Upon l r told s s → q ≡ Err f → Upon l q so s s
passed_on l f r told q so s is u same = subst (λ (x : Result _ Fault). Upon l x so s s) (sym same) (refused-by l f so s (sym (upon_refusal l r told s s u) ∙ ap refusal is))

settled_so : {A S : Type 0} (l m : Line) (o : Order) (a : A) (r : Result A Returned) (told so : Type 0) (s t : S) → l ≡ m → (told → so) → Settled l o a r told s t → Settled m o a r so s t
settled_so l m o a r told so s t same follows u = subst (λ (x : Line). Settled x o a r so s t) same (weaker l u)
  where
    weaker : (l : Line) → Settled l o a r told s t → Settled l o a r so s t
    weaker (Some f) u = u
    weaker None u = (u.0, follows u.1)

module _ {F : Type 0} (finder : Ghosts F) where
  -- another order out changes nothing of what is taken and found
  at_with_out : (held : Option Numbers) (st : Status) (s : Scan F) → At finder st s → At finder st (with_out held s)
  at_with_out held idle s at = at
  at_with_out held (open_on o image) s at = at

  stands_with_out : (held : Option Numbers) (v : Event) (h : History) (s t : Scan F) → status (v ∷ h) ≡ status h → held ≡ out (v ∷ h) → t ≡ with_out held s → Stands finder h s → Stands finder (v ∷ h) t
  stands_with_out held v h s t kept holds is st =
      subst (Stands finder (v ∷ h)) (sym is)
      (record { scan = subst (λ (x : Status). At finder x (with_out held s)) (sym kept) (at_with_out held (status h) s st.scan); order = holds })

  module _ (s : Scan F) (o : Order) (t : Scan F) where
    pub carried-out_so : (r : Result ℕ Returned) → Settled (settle_refusal s.out o.numbers) o o.numbers.entry r (t ≡ with_out None s) s t → CarriedOut finder s o r t
    carried-out_so r always = record {
      always = always;
      upon = λ h st. settled_so _ _ o _ r _ _ s t (ap (λ (x : Option Numbers). settle_refusal x o.numbers) st.order) (λ is. stands_with_out None (carried-out o.numbers o.numbers.entry) h s t refl refl is st) always;
    }

    pub struck_off_so : (r : Result (Unit {0}) Returned) → Settled (settle_refusal s.out o.numbers) o tt r (t ≡ with_out None s) s t → StruckOff finder s o r t
    struck_off_so r always = record {
      always = always;
      upon = λ h st. settled_so _ _ o _ r _ _ s t (ap (λ (x : Option Numbers). settle_refusal x o.numbers) st.order) (λ is. stands_with_out None (struck_off o.numbers) h s t refl refl is st) always;
    }

  pub asked_so : (s : Scan F) (k : ℕ) (r : Result (Option ℕ) Fault) → Upon (ask_refusal (own_facts s) k) r (λ e. e ≡ end_at (own_facts s) k) s s → Asked finder s k r
  asked_so s k r always = record {
    always = always;
    upon = λ h st. let same = own_is finder h s st in upon_so _ _ r _ _ s s (ap (λ x. ask_refusal x k) same) (λ e is. is ∙ ap (λ x. end_at x k) same) always;
  }

  pub issued_so : (s : Scan F) (k : ℕ) (r : Result Order Fault) (t : Scan F)
      → Upon (issue_refusal s.out (own_facts s) k) r (λ o. (o.numbers.landmark ≡ k) × (end_at (own_facts s) k ≡ Some o.numbers.entry) × (t ≡ with_out (Some o.numbers) s)) s t → Issued finder s k r t
  issued_so s k r t always = record {
    always = always;
    upon = λ h st.
        let same = own_is finder h s st in
        upon_so _ _ r _ _ s t (ap (λ x. issue_refusal x (own_facts s) k) st.order ∙ ap (λ x. issue_refusal (out h) x k) same)
        (λ o (landmark, end, is). (landmark, sym (ap (λ x. end_at x k) same) ∙ end, stands_with_out (Some o.numbers) (issued o.numbers) h s t refl refl is st)) always;
  }

  -- an order by what was answered of its entry
  pub issued_entry : (s : Scan F) (k e : ℕ) (r : Result ℕ Fault) → r ≡ Ok e → Upon (issue_refusal s.out (own_facts s) k) r (λ x. end_at (own_facts s) k ≡ Some x) s s
      → Issued finder s k (Ok (record { numbers = record { landmark = k; entry = e } })) (with_out (Some (record { landmark = k; entry = e })) s)
  issued_entry s k e r is u =
      let l = issue_refusal s.out (own_facts s) k in
      let free = sym (upon_refusal l r _ s s u) ∙ ap refusal is in
      let end = upon_told l e (λ x. end_at (own_facts s) k ≡ Some x) s s (subst (λ (x : Result ℕ Fault). Upon l x (λ x. end_at (own_facts s) k ≡ Some x) s s) is u) in
      issued_so s k _ _ (answered l _ _ s _ free (refl, end, refl))
