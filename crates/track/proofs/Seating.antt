-- What a plan says of the words of its landmarks.
use Rattle.std.proofs.Common.{◌≡◌, ℕ, zero, suc, ◌+◌, ◌-◌, ◌<◌, ◌≤◌, List, Some, None, Option, sym, refl, ap, ◌∙◌, ⊎_elim, arith}
use Rattle.std.proofs.lemmas.Option.{slice_get-map, slice_get_within}
use Rattle.std.specs.Option.{option_map}
use Rattle.std.proofs.lemmas.Bool.{cases_lt, cond-true, cond-false, lt-ltb, le-ltb}
use Rattle.std.specs.List.{slice_get}
use Rattle.occurrence.specs.Occurrence.{Pattern}
use Rattle.reach.specs.Reached.{gap_behind, more_words}
use Rattle.landmark.specs.Grammar.{Landmark}
use Rattle.landmark.specs.Spacings.{cap_greatest}
use Rattle.plan.specs.Seats.{PlanOf, Seat, front_of, seats, spot_of, spots_of}
use Rattle.plan.specs.declared.plan.Plan.{Plan}
use Rattle.plan.specs.declared.plan.Spot.{Spot}
use Rattle.plan.proofs.SeatLaws.{one_seat, stands}
use Rattle.track.specs.Telling.{rear_by_front, rear_by_next}
use Rattle.track.specs.Tracking.{by_greatest, nothing, rear}

-- what has a value once mapped had one before
some_before-map : {X Y : Type 0} (f : X → Y) (o : Option X) (y : Y) → option_map f o ≡ Some y → (x : X) × (o ≡ Some x) × (f x ≡ y)
some_before-map f None y is = absurd (cc)
some_before-map f (Some x) y is = (x, refl, cc)

-- the rear of a word that has a word behind it in its landmark, and of the last one
pub rear-inner : (s : Seat) → s.index < more_words s.pattern → rear s ≡ by_greatest (gap_behind s.pattern s.index).greatest
rear-inner s h = cond-true _ _ _ (lt-ltb s.index (more_words s.pattern) h)

pub rear-last : (s : Seat) → more_words s.pattern ≤ s.index → rear s ≡ nothing
rear-last s h = cond-false _ _ _ (le-ltb s.index (more_words s.pattern) h)

-- a cap leaves open what is open
rear-capped : (o : Option ℕ) → by_greatest (cap_greatest o) ≡ by_greatest o
rear-capped None = refl
rear-capped (Some n) = refl

module _ (p : Plan) (ms : List Landmark) (plan : PlanOf p ms) where
  -- the spot of every place is that of its seat
  spot_at : (k : ℕ) → slice_get (spots_of p) k ≡ option_map spot_of (slice_get (seats 0 ms) k)
  spot_at k = ap (λ l. slice_get l k) plan.spots ∙ slice_get-map spot_of (seats 0 ms) k

  seat_spot : (k : ℕ) (s : Seat) → slice_get (seats 0 ms) k ≡ Some s → slice_get (spots_of p) k ≡ Some (spot_of s)
  seat_spot k s there = spot_at k ∙ ap (option_map spot_of) there

  pub spot_seat : (k : ℕ) (spot : Spot) → slice_get (spots_of p) k ≡ Some spot → (s : Seat) × (slice_get (seats 0 ms) k ≡ Some s) × (spot_of s ≡ spot)
  spot_seat k spot there = some_before-map spot_of (slice_get (seats 0 ms) k) spot (sym (spot_at k) ∙ there)

  pub no_seat : (k : ℕ) (s : Seat) → slice_get (spots_of p) k ≡ None → slice_get (seats 0 ms) k ≡ Some s → ⊥
  no_seat k s none there = let some = seat_spot k s there in absurd (cc)

  -- there are at most 64 words and 32 landmarks
  pub seat_few : (k : ℕ) (s : Seat) → slice_get (seats 0 ms) k ≡ Some s → k < 64
  seat_few k s there = let within = slice_get_within (seats 0 ms) k s there in let few = p.spots.few in let count = plan.words in omega arith

  pub landmark_few : (k : ℕ) (s : Seat) → slice_get (seats 0 ms) k ≡ Some s → s.landmark < 32
  landmark_few k s there =
      let (x, at, _) = (stands 0 ms k s there).landmark in
      let within = slice_get_within ms (s.landmark - 0) x at in
      let few = p.roles.few in let count = plan.landmarks in omega arith

  -- the spot of the next word says what lies behind a word
  pub seat_rear : (k : ℕ) (s : Seat) → slice_get (seats 0 ms) k ≡ Some s → rear_by_next (slice_get (spots_of p) (k + 1)) ≡ rear s
  seat_rear k s there =
      let st = stands 0 ms k s there in
      ⊎_elim
      (λ inner.
      let next : Seat = record { landmark = s.landmark; pattern = s.pattern; index = suc s.index } in
      let at : slice_get (seats 0 ms) (k + 1) ≡ Some next = ap (slice_get (seats 0 ms)) (omega (arith, st.number)) ∙ st.each (suc s.index) (omega arith) in
      ap rear_by_next (seat_spot (k + 1) next at) ∙ rear-capped (gap_behind s.pattern s.index).greatest ∙ sym (rear-inner s inner))
      (λ past.
      let place : k + 1 ≡ st.offset + suc (more_words s.pattern) = omega (arith, st.number, st.within) in
      ap rear_by_next (spot_at (k + 1)) ∙ first_or_none (slice_get (seats 0 ms) (k + 1)) (λ t at. st.after t (sym (ap (slice_get (seats 0 ms)) place) ∙ at)) ∙ sym (rear-last s past))
      (cases_lt s.index (more_words s.pattern))
    where
      -- nothing lies in front of a landmark's first word
      first_front : (q : Pattern) (i : ℕ) → i ≡ 0 → rear_by_front (front_of q i) ≡ nothing
      first_front q zero is = refl
      first_front q (suc i) is = absurd (omega arith)

      first_or_none : (o : Option Seat) → ((t : Seat) → o ≡ Some t → t.index ≡ 0) → rear_by_next (option_map spot_of o) ≡ nothing
      first_or_none None first = refl
      first_or_none (Some t) first = first_front t.pattern t.index (first t refl)

-- the last words of two landmarks are two words
pub one_last : (ms : List Landmark) (k i : ℕ) (s t : Seat) → slice_get (seats 0 ms) k ≡ Some s → slice_get (seats 0 ms) i ≡ Some t
    → s.index ≡ more_words s.pattern → t.index ≡ more_words t.pattern → s.landmark ≡ t.landmark → k ≡ i
one_last ms k i s t at-k at_i last-s last-t same =
    let (x, x-at, x-is) = (stands 0 ms k s at-k).landmark in
    let (y, y-at, y-is) = (stands 0 ms i t at_i).landmark in
    let there = ap (λ m. slice_get ms (m - 0)) same in
    let one : x ≡ y = cc in
    let patterns : s.pattern ≡ t.pattern = cc in
    one_seat 0 ms k i s t at-k at_i same (last-s ∙ ap more_words patterns ∙ sym last-t)
