-- The promise over any sequence of calls on scans, over any two kinds of finders.
use Rattle.std.specs.Prelude.{◌≡◌, ℕ, ◌+◌, List, [], ◌∷◌, length, Some, None, Ok, Option, Result}
use Rattle.std.specs.List.{slice_get}
use Rattle.occurrence.specs.Occurrence.{IsEnd}
use Rattle.finder.specs.Words.{half_read}
use Rattle.finder.specs.declared.finder.Finder.{Ghosts}
use Rattle.landmark.specs.Grammar.{Landmark, landmarks_of, words_of, pattern_of}
use Rattle.landmark.specs.declared.element.Role.TheVariants.{Entry, Bar}
use Rattle.landmark.specs.declared.refusal.Fault.{Fault}
use Rattle.scan.specs.History.{History, opened, took, issued, carried-out, struck_off, Opening, Status, idle, open_on, status, out, outs, issuings, carryings, strikings}
use Rattle.scan.specs.Rules.{Facts}
use Rattle.scan.specs.Calls.{Asked, own_taken}
use Rattle.scan.specs.Runs.{Step, Does, Run, history, refused, rule}
use Rattle.scan.specs.declared.scan.Scan.{Scan}

-- entering at e for landmark k is sound: the image is whole, it holds no bar, and e is the smallest end of the entry landmark k
pub record SoundEntry (o : Opening) (image : List ℕ) (k e : ℕ) : Type 0 where
  pub whole : length image ≡ o.announced
  pub landmark : (m : Landmark) × (slice_get (landmarks_of o.list) k ≡ Some m) × (m.role ≡ Entry) × IsEnd (pattern_of m) image (Some e)
  pub unbarred : (j : ℕ) (m : Landmark) → slice_get (landmarks_of o.list) j ≡ Some m → m.role ≡ Bar → IsEnd (pattern_of m) image None

abbrev pub Enters : Status → ℕ → ℕ → Type 0
Enters idle k e = ⊥
Enters (open_on o image) k e = SoundEntry o image k e

-- every order that was carried out answered a sound entry
abbrev pub Sound : History → Type 0
Sound [] = Unit {0}
Sound (opened o ∷ h) = Sound h
Sound (took block ∷ h) = Sound h
Sound (issued n ∷ h) = Sound h
Sound (carried-out n e ∷ h) = Enters (status h) n.landmark e × Sound h
Sound (struck_off n ∷ h) = Sound h

module _ {F : Type 0} (finder : Ghosts F) where
  -- asking about any landmark of the list answers its smallest end in the image, and none where it has no occurrence
  abbrev pub EndsAsked : Opening → List ℕ → Scan F → Type 0
  EndsAsked o image s =
      (k : ℕ) (m : Landmark) → slice_get (landmarks_of o.list) k ≡ Some m → (r : Result (Option ℕ) Fault) → Asked finder s k r → (e : Option ℕ) × (r ≡ Ok e) × IsEnd (pattern_of m) image e

  -- what holds of a scan made of f, after any calls
  pub record Kept (f : F) (vs : List Step) (s : Scan F) : Type 0 where
    -- any further call is refused exactly where the rules refuse it
    pub refusals : (v : Step) (t : Scan F) → Does finder v s t → refused v ≡ rule (finder.words f) (history vs) v
    pub ends : (o : Opening) (image : List ℕ) → status (history vs) ≡ open_on o image → EndsAsked o image s
    pub orders : Sound (history vs)
    pub balance : issuings (history vs) ≡ carryings (history vs) + strikings (history vs) + outs (out (history vs))

  -- bytes taken and half-read strings are what the image defines
  pub record Follows (o : Opening) (image : List ℕ) (s : Scan F) : Type 0 where
    pub taken : own_taken s ≡ Some (length image)
    pub half : finder.halves s.finder ≡ half_read (words_of o.list) image
    pub ends : EndsAsked o image s

module _ {F G : Type 0} (finder : Ghosts F) (finder' : Ghosts G) where
  -- two scans have equal ends, as asking answers them, equal bytes taken and equal half-read strings, and these are what the image defines
  pub record Agree (o : Opening) (image : List ℕ) (s : Scan F) (t : Scan G) : Type 0 where
    pub ends : (k : ℕ) (r q : Result (Option ℕ) Fault) → Asked finder s k r → Asked finder' t k q → r ≡ q
    pub taken : own_taken s ≡ own_taken t
    pub half : finder.halves s.finder ≡ finder'.halves t.finder
    pub left : Follows finder o image s
    pub right : Follows finder' o image t

  pub record Promise : Type 0 where
    pub left : (f : F) (vs : List Step) (s : Scan F) → Run finder f vs s → Kept finder f vs s
    pub right : (g : G) (us : List Step) (t : Scan G) → Run finder' g us t → Kept finder' g us t
    -- last opened alike, and since then blocks that join to the same bytes
    pub agreement : (f : F) (g : G) (vs us : List Step) (s : Scan F) (t : Scan G) (o : Opening) (image : List ℕ) → Run finder f vs s → Run finder' g us t
        → status (history vs) ≡ open_on o image → status (history us) ≡ open_on o image → Agree o image s t

-- two scans tell the same: both are idle, or both are open, have taken as many bytes and have the same ends
abbrev pub Alike : Option Facts → Option Facts → Type 0
Alike None None = Unit {0}
Alike (Some f) (Some g) = (f.taken ≡ g.taken) × (f.ends ≡ g.ends)
Alike None (Some g) = ⊥
Alike (Some f) None = ⊥
