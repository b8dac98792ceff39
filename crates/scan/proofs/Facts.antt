-- The facts by a scan's own numbers are those of the history at which it stands.
use Rattle.std.proofs.Common.{◌≡◌, ℕ, suc, ◌≤◌, List, [], ◌∷◌, map, length, get_or, take, Some, None, refl, ap, ◌∙◌, arith}
use Rattle.std.proofs.lemmas.List.{length-map}
use Rattle.std.specs.List.{slice_get}
use Rattle.occurrence.specs.Laws.{OneEnd}
use Rattle.occurrence.proofs.SearchLaws.{search_finds_the_end}
use Rattle.finder.specs.declared.finder.Finder.{Ghosts}
use Rattle.landmark.specs.Grammar.{landmarks_of, pattern_of}
use Rattle.plan.specs.Seats.{role_of, roles_of}
use Rattle.track.proofs.Ends.{track_end}
use Rattle.scan.specs.History.{History, Status, idle, open_on, status}
use Rattle.scan.specs.Rules.{Facts, facts, facts_on, end_in}
use Rattle.scan.specs.Calls.{At, Stands, ends_of, facts_by, own_facts}
use Rattle.scan.proofs.Asking.{own_open}
use Rattle.std.specs.Option.{option_map}
use Rattle.scan.specs.declared.scan.Scan.{Scan}

one_end : OneEnd
one_end p image (Some a) (Some b) x y = let low = x.least b y.occurs in let high = y.least a x.occurs in let same : a ≡ b = omega arith in ap Some same
one_end p image (Some a) None x y = absurd (y a x.occurs)
one_end p image None (Some b) x y = absurd (x b y.occurs)
one_end p image None None x y = refl

-- a list that has each answer has them all
take-map : {X Y : Type 0} (f : X → Y) (d : Y) (xs : List X) (ys : List Y) → length xs ≤ length ys → ((k : ℕ) (x : X) → slice_get xs k ≡ Some x → get_or ys k d ≡ f x) → take (length xs) ys ≡ map f xs
take-map f d [] ys short each = refl
take-map f d (x ∷ xs) [] short each = absurd (omega arith)
take-map f d (x ∷ xs) (y ∷ ys) short each =
    ap (λ z. z ∷ take (length xs) ys) (each 0 x refl) ∙ ap (λ zs. f x ∷ zs) (take-map f d xs ys (omega arith) (λ k z at. each (suc k) z at))

same-facts : (f g : Facts) → f.announced ≡ g.announced → f.taken ≡ g.taken → f.roles ≡ g.roles → f.ends ≡ g.ends → f ≡ g
same-facts f g announced taken roles ends =
    ap (λ x. record { announced = x; taken = f.taken; roles = f.roles; ends = f.ends }) announced
    ∙ ap (λ x. record { announced = g.announced; taken = x; roles = f.roles; ends = f.ends }) taken
    ∙ ap (λ x. record { announced = g.announced; taken = g.taken; roles = x; ends = f.ends }) roles
    ∙ ap (λ x. record { announced = g.announced; taken = g.taken; roles = g.roles; ends = x }) ends

module _ {F : Type 0} (finder : Ghosts F) where
  pub own_at : (st : Status) (s : Scan F) → At finder st s → own_facts s ≡ facts st
  own_at idle s at = ap (option_map facts_by) at
  own_at (open_on o image) s (p, is, at) =
      let ms = landmarks_of o.list in
      let size : length (roles_of p.plan) ≡ length ms = ap length at.plan.roles ∙ length-map ms role_of in
      let room = p.tracks.all_ends in
      let few = at.well_formed.few in
      let ends : ends_of p.plan p.tracks ≡ map (end_in image) ms =
      ap (λ (n : ℕ). take n p.tracks.ends) size
      ∙ take-map (end_in image) None ms p.tracks.ends (omega arith) (λ k m there. one_end (pattern_of m) image _ _ (track_end ms image p.tracks at.tracks k m there) (search_finds_the_end (pattern_of m) image)) in
      own_open s p is ∙ ap Some (same-facts (facts_by p) (facts_on o image) at.announced at.taken at.plan.roles ends)

  pub own_is : (h : History) (s : Scan F) → Stands finder h s → own_facts s ≡ facts (status h)
  own_is h s st = own_at (status h) s st.scan
