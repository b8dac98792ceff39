-- How a landmark's words are reached one from another.
use Rattle.std.specs.Prelude.{ℕ, suc, ◌<◌, List}
use Rattle.occurrence.specs.Occurrence.{Pattern, Ends, Occurs}
use Rattle.reach.specs.Reached.{Reached, ReachedFrom, more_words, nth_word}

-- one fact exactly if another
abbrev pub ExactlyIf : Type 0 → Type 0 → Type 0
ExactlyIf P Q = (P → Q) × (Q → P)

-- the first word is reached where it ends, each other from where the one before it is reached, and the last where the landmark occurs
pub record Reaching (p : Pattern) : Type 0 where
  pub first : (image : List ℕ) (e : ℕ) → ExactlyIf (Reached p 0 image e) (Ends (nth_word p 0) image e)
  pub next : (j : ℕ) (image : List ℕ) (e : ℕ) → j < more_words p → ExactlyIf (Reached p (suc j) image e) (ReachedFrom p j image e)
  pub last : (image : List ℕ) (e : ℕ) → ExactlyIf (Reached p (more_words p) image e) (Occurs p image e)

abbrev pub ReachingLaw : Type 0
ReachingLaw = (p : Pattern) → Reaching p
