-- Which ends the tracks have been told of, while the words that end at a byte are taken one after another.
use Rattle.std.proofs.Common.{ℕ, zero, suc, ◌+◌, ◌≤◌, List, [], ◌∷◌, ◌++◌, length, subst, ⊎_elim, arith}
use Rattle.std.proofs.lemmas.List.{length-append}
use Rattle.std.proofs.lemmas.Bool.{cases_eq}
use Rattle.occurrence.specs.Occurrence.{Pattern, Ends}
use Rattle.occurrence.proofs.SearchLaws.{occurs-within}
use Rattle.reach.specs.Reached.{Reached, up_to, nth_word, more_words}
use Rattle.reach.proofs.Reaching.{occurs-longer, occurs-shorter, reached_first, reached_from}
use Rattle.finder.specs.Meaning.{ExactlyIf, Bit}
use Rattle.plan.specs.Seats.{Seat}
use Rattle.track.specs.Tracking.{ReachedAt}
use Rattle.track.specs.Telling.{Told}

-- where a word is reached it ends
pub reached_ends : (p : Pattern) (j : ℕ) (image : List ℕ) (e : ℕ) → j ≤ more_words p → Reached p j image e → Ends (nth_word p j) image e
reached_ends p zero image e h r = (reached_first p image e).0 r
reached_ends p (suc j) image e h r = (reached_from p j image e (omega arith) r).1

module _ (s : Seat) (image : List ℕ) (b : ℕ) where
  -- no end lies behind the image
  pub reached_within : (d : ℕ) → ReachedAt s (image ++ (b ∷ [])) d → d ≤ length image + 1
  reached_within d r = let within = occurs-within (up_to s.index s.pattern) (image ++ (b ∷ [])) d r in omega (arith, length-append image (b ∷ []))

  -- the ends of the bytes before are as they were
  pub reached_old : (d : ℕ) → d ≤ length image → ExactlyIf (ReachedAt s image d) (ReachedAt s (image ++ (b ∷ [])) d)
  reached_old d h = (occurs-longer (up_to s.index s.pattern) image (b ∷ []) d, occurs-shorter (up_to s.index s.pattern) image (b ∷ []) d h)

  pub reached_old_within : (d : ℕ) → ReachedAt s image d → d ≤ length image
  reached_old_within d r = occurs-within (up_to s.index s.pattern) image d r

  -- before any word is taken, what was told is what the bytes before say
  pub told_none : (bits k : ℕ) → s.index ≤ more_words s.pattern → (Ends (nth_word s.pattern s.index) (image ++ (b ∷ [])) (length image + 1) → Bit bits k) → (d : ℕ) → ExactlyIf (ReachedAt s image d) (Told bits k s (image ++ (b ∷ [])) (length image + 1) d)
  told_none bits k within ends d = (
    λ r. let old = reached_old_within d r in ((reached_old d old).0 r, λ is bit. absurd (omega arith)),
    λ (r, other). ⊎_elim (λ is. absurd (other is (ends (subst (Ends (nth_word s.pattern s.index) (image ++ (b ∷ []))) is (reached_ends s.pattern s.index (image ++ (b ∷ [])) d within r)))))
        (λ apart. let old = reached_within d r in (reached_old d (omega arith)).1 r) (cases_eq d (length image + 1)),
  )

-- taking another word's bit changes nothing
pub told_other : (bits rest k : ℕ) (s : Seat) (image : List ℕ) (e d : ℕ) → ExactlyIf (Bit bits k) (Bit rest k) → ExactlyIf (Told bits k s image e d) (Told rest k s image e d)
told_other bits rest k s image e d same = (λ t. (t.0, λ is bit. t.1 is (same.1 bit)), λ t. (t.0, λ is bit. t.1 is (same.0 bit)))
