-- Asking by the scan's own numbers.
use Rattle.std.proofs.Common.{◌≡◌, ℕ, ◌<◌, ◌≤◌, Bool, true, false, not, ltb, length, get_or, Some, None, Ok, Err, sym, refl, ap, subst, arith}
use Rattle.std.proofs.lemmas.List.{length-take-le, get_or-take}
use Rattle.std.proofs.lemmas.Bool.Decides.{nat_tests}
use Rattle.landmark.specs.Lists.{fault}
use Rattle.landmark.specs.declared.refusal.Fault.{Fault}
use Rattle.landmark.specs.declared.refusal.Refusal.TheVariants.{NoSuchLandmark}
use Rattle.plan.specs.Seats.{landmarks_in, roles_of}
use Rattle.plan.specs.declared.plan.Plan.{Plan}
use Rattle.scan.specs.Rules.{Line, line, end_at, ask_refusal}
use Rattle.track.specs.declared.tracks.Tracks.{Tracks}
use Rattle.scan.specs.Calls.{Upon, ends_of, own_facts, facts_by}
use Rattle.std.specs.Option.{option_map}
use Rattle.scan.specs.declared.scan.Progress.{Progress}
use Rattle.scan.specs.declared.scan.Scan.{Scan}

-- a plan has as many roles as landmarks
pub length-roles : (p : Plan) → length (roles_of p) ≡ landmarks_in p
length-roles p = let few = p.roles.few in let all = p.roles.whole in length-take-le p.roles.count p.roles.items (omega arith)

-- and tracks have room for an end of each
pub room-ends : (p : Plan) (t : Tracks) → length (roles_of p) ≤ length t.ends
room-ends p t = let few = p.roles.few in let size = length-roles p in let all = t.all_ends in omega arith

pub length-ends : (p : Plan) (t : Tracks) → length (ends_of p t) ≡ length (roles_of p)
length-ends p t = length-take-le (length (roles_of p)) t.ends (room-ends p t)

module _ (p : Progress) (k : ℕ) where
  -- a landmark of the plan may be asked about
  pub may_ask_by : k < length (roles_of p.plan) → ask_refusal (Some (facts_by p)) k ≡ None
  may_ask_by below =
      let within : ltb k (length (roles_of p.plan)) ≡ true = grind (arith, nat_tests) in
      ap (λ (b : Bool). line (not b) NoSuchLandmark k) within

  pub no_such_by : length (roles_of p.plan) ≤ k → ask_refusal (Some (facts_by p)) k ≡ Some (fault NoSuchLandmark k)
  no_such_by past =
      let within : ltb k (length (roles_of p.plan)) ≡ false = grind (arith, nat_tests) in
      ap (λ (b : Bool). line (not b) NoSuchLandmark k) within

  pub end_by : k < length (roles_of p.plan) → end_at (Some (facts_by p)) k ≡ get_or p.tracks.ends k None
  end_by below = get_or-take (length (roles_of p.plan)) p.tracks.ends k None below

pub own_open : {F : Type 0} (s : Scan F) (p : Progress) → s.progress ≡ Some p → own_facts s ≡ Some (facts_by p)
own_open s p is = ap (option_map facts_by) is

-- an answer where no line applies
pub answered : {A S : Type 0} (l : Line) (a : A) (told : A → Type 0) (s t : S) → l ≡ None → told a → Upon l (Ok a) told s t
answered l a told s t none so = subst (λ (x : Line). Upon x (Ok a) told s t) (sym none) so

-- a refusal by the line that applies, and nothing changed
pub refused-by : {A S : Type 0} (l : Line) (f : Fault) (told : A → Type 0) (s : S) → l ≡ Some f → Upon l (Err f) told s s
refused-by l f told s is = subst (λ (x : Line). Upon x (Err f) told s s) (sym is) (refl, refl)
