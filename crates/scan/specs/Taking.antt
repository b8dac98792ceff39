-- Taking bytes, one after another.
use Rattle.std.specs.Prelude.{◌≡◌, ℕ, ◌+◌, List, ◌++◌, length}
use Rattle.finder.specs.Words.{Took}
use Rattle.finder.specs.declared.finder.Finder.{Ghosts}
use Rattle.track.specs.Stepping.{Takes}
use Rattle.scan.specs.History.{Opening}
use Rattle.scan.specs.Calls.{HasTaken, Longer}
use Rattle.scan.specs.declared.scan.Progress.{Progress}

module _ {F : Type 0} (finder : Ghosts F) where
  -- one byte more is taken: by the finder, and by the progress beside it with the words that end with it
  pub record NextByte (f : F) (p : Progress) (b : ℕ) (g : F) (q : Progress) : Type 0 where
    pub ending : ℕ
    pub took : Took finder.words finder.halves f b g ending
    pub tracks : Takes p.plan p.tracks ending (p.taken + 1) q.tracks
    pub longer : Longer p 1 q

  -- these bytes more are taken, whatever the scan was opened with
  pub record NextBytes (f : F) (p : Progress) (block : List ℕ) (g : F) (q : Progress) : Type 0 where
    pub same-words : finder.words g ≡ finder.words f
    pub longer : Longer p (length block) q
    pub follows : (o : Opening) (image : List ℕ) → HasTaken finder o image f p → HasTaken finder o (image ++ block) g q
