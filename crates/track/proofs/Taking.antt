-- The words that end at a byte: what the tracks say of each, and what is kept of it.
use Rattle.std.proofs.Common.{◌≡◌, ℕ, ◌+◌, List, [], ◌∷◌, ◌++◌, length, Some, None, sym, ap, ◌∙◌, subst, arith}
use Rattle.std.proofs.lemmas.List.{length-append}
use Rattle.std.specs.List.{slice_get}
use Rattle.finder.specs.Meaning.{Bit}
use Rattle.occurrence.specs.Occurrence.{Ends}
use Rattle.reach.specs.Reached.{nth_word}
use Rattle.landmark.specs.Grammar.{Landmark, WellFormed}
use Rattle.plan.specs.Seats.{PlanOf, spot_of, spots_of}
use Rattle.plan.specs.declared.plan.Plan.{Plan}
use Rattle.plan.specs.declared.plan.Spot.{Spot}
use Rattle.track.specs.Stepping.{BitsTell, Takes}
use Rattle.track.specs.Telling.{Forgets, ReachedBy, Reaches, TakesWord, Telling, rear_by_next}
use Rattle.track.specs.Tracking.{rear}
use Rattle.track.specs.declared.tracks.Tracks.{Tracks}
use Rattle.track.proofs.Asking.{asked}
use Rattle.track.proofs.Limits.{seat_limited}
use Rattle.track.proofs.Seating.{no_seat, seat_rear, spot_seat}
use Rattle.track.proofs.Stepping.{telling_all, telling_none}
use Rattle.track.proofs.Telling.{telling_passed, telling_reached}

-- no landmark has such a word
pub word-absent : (p : Plan) (t : Tracks) (k end : ℕ) → slice_get (spots_of p) k ≡ None → TakesWord p t k end t
word-absent p t k end none ms image left rest good plan at low ends telling = telling_passed ms image left k rest t low telling (λ s there _. no_seat p ms plan k s none there)

module _ (p : Plan) (t : Tracks) (k end : ℕ) (spot : Spot) (there : slice_get (spots_of p) k ≡ Some spot) where
  -- the word is not reached
  pub word-passed : (ReachedBy t spot k end → ⊥) → TakesWord p t k end t
  word-passed unreached ms image left rest good plan at low ends telling =
      telling_passed ms image left k rest t low telling (λ s seat reached.
      let (r, seat-r, is) = spot_seat p ms plan k spot there in
      let same : spot_of s ≡ spot = let one : s ≡ r = cc in ap spot_of one ∙ is in
      let by = (asked ms image left t good telling k s seat (subst (Ends (nth_word s.pattern s.index) image) at (ends s seat))).1 reached in
      unreached (subst (λ (x : Spot). ReachedBy t x k end) same (subst (λ e. ReachedBy t (spot_of s) k e) (sym at) by)))

  -- the word is reached, and its end is kept
  pub word-reached : (u : Tracks) → ReachedBy t spot k end → Reaches (rear_by_next (slice_get (spots_of p) (k + 1))) t k spot.landmark end u → TakesWord p t k end u
  word-reached u by reaches ms image left rest good plan at low ends telling =
      let (s, seat, is) = spot_seat p ms plan k spot there in
      let here = subst (Ends (nth_word s.pattern s.index) image) at (ends s seat) in
      let reached = (asked ms image left t good telling k s seat here).0 (subst (λ e. ReachedBy t (spot_of s) k e) at (subst (λ (x : Spot). ReachedBy t x k end) (sym is) by)) in
      let kept = subst (λ r. Reaches r t k spot.landmark end u) (seat_rear p ms plan k s seat) reaches in
      let own = subst (λ (x : Spot). Reaches (rear s) t k x.landmark end u) (sym is) kept in
      telling_reached ms image left k rest t low telling p s u plan seat (omega (arith, here.0, (seat_limited ms k s good.each seat s.index).0)) reached (subst (λ e. Reaches (rear s) t k s.landmark e u) at own)

-- the words whose bits are no more left are told of
pub record Taken (p : Plan) (t : Tracks) (ending end left : ℕ) (u : Tracks) : Type 0 where
  pub told : (ms : List Landmark) (image : List ℕ) → WellFormed ms → PlanOf p ms → end ≡ length image → BitsTell ms image ending → Telling ms image ending t → Telling ms image left u
  pub fewer : (k : ℕ) → Bit left k → Bit ending k

-- where the end was forgotten first and no bit is left, the byte is taken
pub taken_all : (p : Plan) (before t : Tracks) (ending end left : ℕ) (u : Tracks) → Forgets before end t → left ≡ 0 → Taken p t ending end left u → Takes p before ending end u
taken_all p before t ending end left u forgets none taken ms image b good plan tracks at tell =
    let whole : end ≡ length (image ++ (b ∷ [])) = at ∙ sym (length-append image (b ∷ [])) in
    let start = telling_none p ms image b ending before t plan tracks (subst (λ e. Forgets before e t) at forgets) tell in
    telling_all ms (image ++ (b ∷ [])) u (subst (λ bits. Telling ms (image ++ (b ∷ [])) bits u) none (taken.told ms (image ++ (b ∷ [])) good plan whole tell start))
