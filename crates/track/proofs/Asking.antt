-- Whether a word is reached at the image's last byte, by what the tracks have of the word before it.
use Rattle.std.proofs.Common.{◌≡◌, ℕ, zero, suc, ◌+◌, ◌-◌, ◌<◌, ◌≤◌, min, max, false, List, length, get_or, Some, None, Option, refl, ap, ◌∙◌, subst, arith}
use Rattle.std.specs.List.{slice_get}
use Rattle.finder.specs.Meaning.{ExactlyIf}
use Rattle.occurrence.specs.Occurrence.{Ends, Gap, Keeps, Pattern}
use Rattle.reach.specs.Reached.{gap_behind, nth_word}
use Rattle.reach.proofs.Reaching.{reached_first, reached_from, reached_to}
use Rattle.window.proofs.Ends.{holds-answers}
use Rattle.landmark.specs.Grammar.{Landmark, WellFormed}
use Rattle.landmark.specs.Lists.{too_wide}
use Rattle.landmark.specs.Spacings.{cap, capped}
use Rattle.plan.specs.Seats.{Seat, seats, spot_of}
use Rattle.plan.proofs.SeatLaws.{stands}
use Rattle.track.specs.Telling.{KeepsAfter, ReachedBy, Telling, Told}
use Rattle.track.specs.Tracking.{IsFirst, KeptAs, ReachedAt, by_greatest}
use Rattle.track.specs.declared.tracks.Tracks.{Tracks}
use Rattle.track.proofs.Limits.{greatest_narrow, least_narrow, seat_limited}
use Rattle.track.proofs.Seating.{rear-inner}
use Rattle.track.proofs.Told.{reached_ends}

-- some end at which a word was told keeps the gap before the start
abbrev KeptFrom : (ℕ → Type 0) → Gap → ℕ → Type 0
KeptFrom told g start = (q : ℕ) × told q × Keeps g q start

-- the least of a gap that is not too wide is not capped
uncapped : (n : ℕ) → n ≤ 255 → min n cap ≡ n
uncapped n h = omega arith

-- the smallest end answers for an open gap
first_answers : (told : ℕ → Type 0) (least start : ℕ) (o : Option ℕ) → IsFirst told o
    → ExactlyIf ((first : ℕ) × (o ≡ Some first) × (first + least ≤ start)) (KeptFrom told (record { least = least; greatest = None }) start)
first_answers told least start None none = (λ (f, is, _). absurd (cc), λ (q, here, _). absurd (none q here))
first_answers told least start (Some e) (here, smallest) = (
  λ (f, is, keeps). let same : e ≡ f = cc in (e, here, (omega arith, tt)),
  λ (q, there, keeps). let before = smallest q there in (e, refl, omega arith),
)

-- the tracks of a word before a gap that is not too wide answer whether the gap is kept: the last byte of the image is at most 64 behind the start
gap_answers : (told : ℕ → Type 0) (taken start : ℕ) (t : Tracks) (k m least : ℕ) (o : Option ℕ) → too_wide (record { least = least; greatest = o }) ≡ false → start < taken → taken ≤ start + 64
    → ((q : ℕ) → told q → 1 ≤ q) → KeptAs (by_greatest o) told taken t k m
    → ExactlyIf (KeepsAfter t k (capped (record { least = least; greatest = o })) start) (KeptFrom told (record { least = least; greatest = o }) start)
gap_answers told taken start t k m least None narrow after near some kept =
    let same = uncapped least (least_narrow least None narrow) in
    let (there, back) = first_answers told least start (get_or t.firsts k None) kept in (
      λ (f, is, keeps). there (f, is, omega arith),
      λ q. let (f, is, keeps) = back q in (f, is, omega arith),
    )
gap_answers told taken start t k m least (Some n) narrow after near some kept =
    let same = uncapped least (least_narrow least (Some n) narrow) in
    let most = greatest_narrow least n narrow in
    let low = max 1 (start - min n cap) in
    let high = start - min least cap in
    let (there, back) = holds-answers told taken t.windows.numbers k low high (omega arith) (omega arith) (omega arith) kept in (
      λ (fits, marked). let (q, from, to, is) = there marked in (q, is, (omega arith, omega arith)),
      λ (q, is, (keeps, at_most)). let first = some q is in (omega arith, back (q, omega arith, omega arith, is)),
    )

-- so what the tracks say of a word that ends at the last byte is right
module _ (ms : List Landmark) (image : List ℕ) (left : ℕ) (t : Tracks) (good : WellFormed ms) (telling : Telling ms image left t) where
  asked_by_index : (k : ℕ) (m : ℕ) (p : Pattern) (i : ℕ) → let s : Seat = record { landmark = m; pattern = p; index = i } in
      slice_get (seats 0 ms) k ≡ Some s → Ends (nth_word p i) image (length image) → ExactlyIf (ReachedBy t (spot_of s) k (length image)) (ReachedAt s image (length image))
  asked_by_index k m p zero there ends = (λ _. (reached_first p image (length image)).1 ends, λ _. tt)
  asked_by_index k m p (suc j) there ends =
      let s : Seat = record { landmark = m; pattern = p; index = suc j } in
      let st = stands 0 ms k s there in
      let limited = seat_limited ms k s good.each there in
      let e = length image in
      let start = e - length (nth_word p (suc j)) in
      let size = (limited (suc j)).0 in
      let before : Seat = record { landmark = m; pattern = p; index = j } in
      let at : slice_get (seats 0 ms) (k - 1) ≡ Some before = ap (slice_get (seats 0 ms)) (omega (arith, st.number)) ∙ st.each j (omega (arith, st.within)) in
      let told = λ (q : ℕ). Told left (k - 1) before image e q in
      let kept = subst (λ r. KeptAs r told e t (k - 1) m) (rear-inner before (omega (arith, st.within))) (telling.kept (k - 1) before at) in
      let (there, back) = gap_answers told e start t (k - 1) m (gap_behind p j).least (gap_behind p j).greatest (limited j).1 (omega arith) (omega arith) (λ q (r, _). omega (arith, (limited j).0, reached_ends p j image q (omega (arith, st.within)) r)) kept in (
        λ (some, fits, keeps). let (q, (r, _), kept-gap) = there keeps in reached_to p j image e (omega (arith, st.within)) (q, ends, r, kept-gap),
        λ r. let (q, _, was, kept-gap) = reached_from p j image e (omega (arith, st.within)) r in
            (omega (arith, st.number), ends.0, back (q, (was, λ is bit. omega arith), kept-gap)),
      )

  pub asked : (k : ℕ) (s : Seat) → slice_get (seats 0 ms) k ≡ Some s → Ends (nth_word s.pattern s.index) image (length image) → ExactlyIf (ReachedBy t (spot_of s) k (length image)) (ReachedAt s image (length image))
  asked k s = asked_by_index k s.landmark s.pattern s.index
