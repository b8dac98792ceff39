-- The limits that good landmarks keep to: words of 1 to 64 bytes, and gaps of at most 255.
use Rattle.std.proofs.Common.{◌≡◌, ℕ, zero, suc, ◌-◌, ◌≤◌, false, List, [], ◌∷◌, Some, None, Option, refl, subst, arith}
use Rattle.std.proofs.lemmas.Bool.Decides.{nat_tests}
use Rattle.std.specs.List.{AllByRecursion, slice_get}
use Rattle.finder.specs.Words.{WellSized}
use Rattle.occurrence.specs.Occurrence.{Pattern}
use Rattle.reach.specs.Reached.{gap_behind, nth_word}
use Rattle.landmark.specs.Grammar.{BeginsWithAWord, GoodLandmark, GoodStep, Landmark, Step, chain}
use Rattle.landmark.specs.Lists.{too_wide}
use Rattle.landmark.specs.Records.{run, unfit}
use Rattle.plan.specs.Seats.{Seat, seats}
use Rattle.plan.proofs.SeatLaws.{stands}

word-sized : (w : List ℕ) → unfit (run w) ≡ None → WellSized w
word-sized w fit = (grind (arith, nat_tests), grind (arith, nat_tests))

-- the sums of a gap
pub least_narrow : (least : ℕ) (o : Option ℕ) → too_wide (record { least = least; greatest = o }) ≡ false → least ≤ 255
least_narrow least o narrow = grind (arith, nat_tests)

pub greatest_narrow : (least n : ℕ) → too_wide (record { least = least; greatest = Some n }) ≡ false → n ≤ 255
greatest_narrow least n narrow = grind (arith, nat_tests)

-- every word is well sized, and no gap is too wide
abbrev pub Limited : Pattern → Type 0
Limited p = (j : ℕ) → WellSized (nth_word p j) × (too_wide (gap_behind p j) ≡ false)

chain-limited : (s : Step) (ss : List Step) → AllByRecursion GoodStep (s ∷ ss) → Limited (chain (s ∷ ss))
chain-limited s [] (good, _) j = (word-sized s.word good.word, refl)
chain-limited s (t ∷ ss) (good, goods) zero = (word-sized s.word good.word, goods.0.narrow)
chain-limited s (t ∷ ss) (good, goods) (suc j) = chain-limited t ss goods j

steps_limited : (ss : List Step) (m : Landmark) → m.steps ≡ ss → GoodLandmark m → Limited (chain ss)
steps_limited [] m is good = absurd (subst BeginsWithAWord is good.begins)
steps_limited (s ∷ ss) m is good = chain-limited s ss (subst (AllByRecursion GoodStep) is good.steps)

good_at : (ms : List Landmark) (i : ℕ) (x : Landmark) → AllByRecursion GoodLandmark ms → slice_get ms i ≡ Some x → GoodLandmark x
good_at [] i x goods there = absurd (cc)
good_at (m ∷ ms) zero x (good, goods) there = let is : m ≡ x = cc in subst GoodLandmark is good
good_at (m ∷ ms) (suc i) x (good, goods) there = good_at ms i x goods there

pub seat_limited : (ms : List Landmark) (k : ℕ) (s : Seat) → AllByRecursion GoodLandmark ms → slice_get (seats 0 ms) k ≡ Some s → Limited s.pattern
seat_limited ms k s goods there =
    let (x, at, is) = (stands 0 ms k s there).landmark in
    subst Limited is (steps_limited x.steps x refl (good_at ms (s.landmark - 0) x goods at))
