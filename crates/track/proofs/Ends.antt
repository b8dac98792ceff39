-- Tracks in which nothing is found, and the ends that tracks have.
use Rattle.std.proofs.Common.{◌≡◌, ℕ, ◌+◌, List, [], length, get_or, replicate, Some, None, Option, sym, ap, ◌∙◌, subst, ⊎_elim, zero-add, arith}
use Rattle.std.proofs.lemmas.List.{get_or_past, get_or-replicate, length-replicate}
use Rattle.std.proofs.lemmas.Bool.{cases_lt}
use Rattle.std.specs.List.{AllByRecursion, slice_get}
use Rattle.occurrence.specs.Occurrence.{IsEnd, Occurs, Pattern}
use Rattle.reach.specs.Reached.{more_words}
use Rattle.reach.proofs.Reaching.{up_to-last}
use Rattle.window.specs.Windows.{Empty}
use Rattle.window.proofs.Ends.{cleared-empty, holds-none}
use Rattle.landmark.specs.Grammar.{GoodLandmark, Landmark, pattern_of}
use Rattle.plan.specs.Seats.{Seat}
use Rattle.plan.proofs.SeatLaws.{last_seat, stands}
use Rattle.track.specs.Tracking.{IsFirst, KeptAs, NothingFound, ReachedAt, Rear, TracksOf, bounded, nothing, open_gap, rear}
use Rattle.track.specs.declared.tracks.Tracks.{Tracks}
use Rattle.track.proofs.Limits.{seat_limited}
use Rattle.track.proofs.Seating.{rear-last}
use Rattle.track.proofs.Told.{reached_ends}

-- a list of none has none everywhere
all_none : (n i : ℕ) (xs : List (Option ℕ)) → xs ≡ replicate n None → get_or xs i None ≡ None
all_none n i xs is =
    ap (λ l. get_or l i None) is ∙ ⊎_elim (λ within. get_or-replicate n i None None within) (λ past. get_or_past (replicate n None) i None (simp length-replicate past)) (cases_lt i n)

-- where nothing is found every window is empty
empty_none : (t : Tracks) (k : ℕ) → NothingFound t → Empty t.windows.numbers k
empty_none t k found = subst (λ xs. Empty xs k) (sym found.windows) (cleared-empty k)

-- where no end is reached nothing is kept
kept_none : (r : Rear) (P : ℕ → Type 0) (t : Tracks) (k m : ℕ) → NothingFound t → ((d : ℕ) → P d → ⊥) → KeptAs r P 0 t k m
kept_none nothing P t k m found none = subst (IsFirst P) (sym (all_none 32 m t.ends found.ends)) none
kept_none open_gap P t k m found none = subst (IsFirst P) (sym (all_none 64 k t.firsts found.firsts)) none
kept_none bounded P t k m found none = holds-none P t.windows.numbers k (empty_none t k found)

-- in no bytes no word of good landmarks is reached, so tracks in which nothing is found are those of no bytes
pub nothing_found : (ms : List Landmark) (t : Tracks) → AllByRecursion GoodLandmark ms → NothingFound t → TracksOf ms [] t
nothing_found ms t good found = record {
  kept = λ k s there. kept_none (rear s) (ReachedAt s []) t k s.landmark found
      (λ d reached. omega (arith, (seat_limited ms k s good there s.index).0, reached_ends s.pattern s.index [] d (stands 0 ms k s there).within reached));
  active = λ k h none. empty_none t k found;
  only = λ k none. empty_none t k found;
}

-- the smallest end of an occurrence is a landmark's end
first_end : (p : Pattern) (image : List ℕ) (o : Option ℕ) → IsFirst (Occurs p image) o → IsEnd p image o
first_end p image (Some e) (here, least) = record { occurs = here; least = least }
first_end p image None none = none

-- the tracks have the end of every landmark
pub track_end : (ms : List Landmark) (image : List ℕ) (t : Tracks) → TracksOf ms image t → (m : ℕ) (x : Landmark) → slice_get ms m ≡ Some x → IsEnd (pattern_of x) image (get_or t.ends m None)
track_end ms image t tracks m x there =
    let p = pattern_of x in
    let (k, at) = last_seat 0 ms m x there in
    let s : Seat = record { landmark = 0 + m; pattern = p; index = more_words p } in
    let kept = subst (λ r. KeptAs r (ReachedAt s image) (length image) t k s.landmark) (rear-last s (omega arith)) (tracks.kept k s at) in
    let whole = subst (λ q. IsFirst (Occurs q image) (get_or t.ends (0 + m) None)) (up_to-last p) kept in
    first_end p image (get_or t.ends m None) (subst (λ n. IsFirst (Occurs p image) (get_or t.ends n None)) (zero-add m) whole)
