-- The tracks before and after a byte.
use Rattle.std.proofs.Common.{◌≡◌, ℕ, ◌+◌, ◌%◌, ◌<◌, ◌≤◌, List, [], ◌∷◌, ◌++◌, length, get_or, None, sym, ap, subst, arith}
use Rattle.std.proofs.lemmas.List.{length-append}
use Rattle.finder.specs.Meaning.{ExactlyIf}
use Rattle.bits.proofs.Bits.{bit-of_zero}
use Rattle.occurrence.specs.Occurrence.{Ends}
use Rattle.reach.specs.Reached.{nth_word}
use Rattle.window.specs.Windows.{HoldsEnds, Marked, span}
use Rattle.landmark.specs.Grammar.{Landmark}
use Rattle.plan.specs.Seats.{PlanOf}
use Rattle.plan.specs.declared.plan.Plan.{Plan}
use Rattle.plan.proofs.SeatLaws.{stands}
use Rattle.track.specs.Stepping.{BitsTell}
use Rattle.track.specs.Telling.{Forgets, Telling, Told}
use Rattle.track.specs.Tracking.{ActiveTells, IsFirst, KeptAs, ReachedAt, Rear, TracksOf, bounded, nothing, open_gap, rear}
use Rattle.track.specs.declared.tracks.Tracks.{Tracks}
use Rattle.track.proofs.Firsts.{first_same}
use Rattle.track.proofs.Seating.{seat_few}
use Rattle.track.proofs.Telling.{kept_same}
use Rattle.track.proofs.Told.{reached_old_within, told_none}

-- a window that has forgotten the end holds the ends of the bytes before it
holds-forgotten : (P Q : ℕ → Type 0) (taken : ℕ) (xs ys : List (List ℕ)) (k : ℕ) → ((d : ℕ) → ExactlyIf (P d) (Q d)) → ((d : ℕ) → P d → d ≤ taken)
    → ((b : ℕ) → b < span → ExactlyIf (Marked ys k b) (Marked xs k b × (b ≡ (taken + 1) % span → ⊥))) → HoldsEnds P taken xs k → HoldsEnds Q (taken + 1) ys k
holds-forgotten P Q taken xs ys k same within bits holds b small = (
  λ set.
      let (was, apart) = (bits b small).0 set in
      let (e, (some, past, recent), at, is) = (holds b small).0 was in
      (e, (some, omega arith, omega arith), at, (same e).0 is),
  λ (e, (some, past, recent), at, is).
      let old = within e ((same e).1 is) in
      (bits b small).1 ((holds b small).1 (e, (some, old, omega arith), at, (same e).1 is), λ last. omega arith),
)

kept_forgotten : (r : Rear) (P Q : ℕ → Type 0) (taken : ℕ) (t u : Tracks) (k m : ℕ) → k < 64 → ActiveTells t → Forgets t (taken + 1) u → ((d : ℕ) → ExactlyIf (P d) (Q d)) → ((d : ℕ) → P d → d ≤ taken)
    → KeptAs r P taken t k m → KeptAs r Q (taken + 1) u k m
kept_forgotten nothing P Q taken t u k m few active forgets same within kept =
    subst (IsFirst Q) (ap (λ l. get_or l m None) (sym forgets.ends)) (first_same P Q (get_or t.ends m None) same kept)
kept_forgotten open_gap P Q taken t u k m few active forgets same within kept =
    subst (IsFirst Q) (ap (λ l. get_or l k None) (sym forgets.firsts)) (first_same P Q (get_or t.firsts k None) same kept)
kept_forgotten bounded P Q taken t u k m few active forgets same within kept =
    holds-forgotten P Q taken t.windows.numbers u.windows.numbers k same within (λ b small. forgets.bits active k b few small) kept

-- before the first word is told of, the tracks are those of the bytes before
pub telling_none : (p : Plan) (ms : List Landmark) (image : List ℕ) (b ending : ℕ) (t u : Tracks) → PlanOf p ms → TracksOf ms image t → Forgets t (length image + 1) u
    → BitsTell ms (image ++ (b ∷ [])) ending → Telling ms (image ++ (b ∷ [])) ending u
telling_none p ms image b ending t u plan tracks forgets tell =
    let size : length (image ++ (b ∷ [])) ≡ length image + 1 = length-append image (b ∷ []) in
    record {
      kept = λ k s there. subst (λ n. KeptAs (rear s) (Told ending k s (image ++ (b ∷ [])) n) n u k s.landmark) (sym size)
          (kept_forgotten (rear s) (ReachedAt s image) (Told ending k s (image ++ (b ∷ [])) (length image + 1)) (length image) t u k s.landmark (seat_few p ms plan k s there) tracks.active forgets
          (told_none s image b ending k (stands 0 ms k s there).within (λ ends. (tell k s there).1 (subst (Ends (nth_word s.pattern s.index) (image ++ (b ∷ []))) (sym size) ends)))
          (reached_old_within s image b) (tracks.kept k s there));
      active = forgets.active tracks.active;
      only = λ k none c g m. tracks.only k none c g (forgets.fewer k c g m);
    }

-- once every word is told of, they are those of all bytes
pub telling_all : (ms : List Landmark) (image : List ℕ) (t : Tracks) → Telling ms image 0 t → TracksOf ms image t
telling_all ms image t telling = record {
  kept = λ k s there. kept_same (rear s) (Told 0 k s image (length image)) (ReachedAt s image) (length image) t k s.landmark (λ d. (λ (r, _). r, λ r. (r, λ _. bit-of_zero k))) (telling.kept k s there);
  active = telling.active;
  only = telling.only;
}
