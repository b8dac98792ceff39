-- Whether two scans tell the same, by their own numbers.
use Rattle.std.proofs.Common.{◌≡◌, ℕ, ◌<◌, ◌≤◌, eqb, Decides, List, length, get_or, take, Some, None, Option, sym, refl, ap, ◌∙◌, subst, arith}
use Rattle.std.proofs.lemmas.Bool.Decides.{Decides-eqb, Decides-like}
use Rattle.std.specs.Option.{option_eq}
use Rattle.std.proofs.lemmas.List.{get_or_default, get_or-take, length-take-le, same_lists}
use Rattle.finder.specs.declared.finder.Finder.{Ghosts}
use Rattle.track.specs.declared.tracks.Tracks.{Tracks}
use Rattle.scan.specs.History.{History, status}
use Rattle.scan.specs.Rules.{Facts, facts}
use Rattle.scan.specs.Calls.{Stands, ends_of, own_facts}
use Rattle.plan.specs.Seats.{roles_of}
use Rattle.scan.specs.Promise.{Alike}
use Rattle.scan.proofs.Asking.{length-ends}
use Rattle.scan.specs.declared.scan.Progress.{Progress}
use Rattle.scan.proofs.Facts.{own_is}
use Rattle.scan.specs.declared.scan.Scan.{Scan}

-- the derived test of two ends decides whether they are the same
pub Decides-option_eq : (a b : Option ℕ) → Decides (option_eq eqb a b) (a ≡ b)
Decides-option_eq None None = (λ _. refl, λ _. refl)
Decides-option_eq None (Some y) = (λ e. cc, λ e. cc)
Decides-option_eq (Some x) None = (λ e. cc, λ e. cc)
Decides-option_eq (Some x) (Some y) = Decides-like _ (ap Some) (λ e. cc) (Decides-eqb x y)

-- the same ends, one by one
module _ (s t : Tracks) (n : ℕ) (few : n ≤ 32) where
  pub ends_same : ((k : ℕ) → k < n → get_or s.ends k None ≡ get_or t.ends k None) → take n s.ends ≡ take n t.ends
  ends_same each =
      let all-s = s.all_ends in
      let all-t = t.all_ends in
      let size-s = length-take-le n s.ends (omega arith) in
      let size-t = length-take-le n t.ends (omega arith) in
      same_lists (take n s.ends) (take n t.ends) (size-s ∙ sym size-t)
      (λ k d h. let below : k < n = omega arith in
      get_or-take n s.ends k d below ∙ get_or_default s.ends k d None (omega arith) ∙ each k below ∙ get_or_default t.ends k None d (omega arith) ∙ sym (get_or-take n t.ends k d below))

  pub same-end_at : (k : ℕ) → k < n → take n s.ends ≡ take n t.ends → get_or s.ends k None ≡ get_or t.ends k None
  same-end_at k below same = sym (get_or-take n s.ends k None below) ∙ ap (λ (xs : List (Option ℕ)). get_or xs k None) same ∙ get_or-take n t.ends k None below

alike_self : (f : Option Facts) → Alike f f
alike_self None = tt
alike_self (Some f) = (refl, refl)

-- scans that stand at the same status tell the same
pub alike_at : {F G : Type 0} (finder : Ghosts F) (finder' : Ghosts G) (s : Scan F) (t : Scan G) (h i : History) → Stands finder h s → Stands finder' i t → status h ≡ status i → Alike (own_facts s) (own_facts t)
alike_at finder finder' s t h i st st' same =
    subst (λ (f : Option Facts). Alike f (own_facts t)) (own_is finder' i t st' ∙ ap facts (sym same) ∙ sym (own_is finder h s st)) (alike_self (own_facts t))

-- where the ends are the same, there are as many landmarks
pub same_landmarks : (p q : Progress) → ends_of p.plan p.tracks ≡ ends_of q.plan q.tracks → length (roles_of p.plan) ≡ length (roles_of q.plan)
same_landmarks p q same = sym (length-ends p.plan p.tracks) ∙ ap length same ∙ length-ends q.plan q.tracks
