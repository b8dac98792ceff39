-- Where a landmark occurs in an image, and its end. Image bytes are counted from 1, and an end is the count of its last byte.
use Rattle.std.specs.Prelude.{◌≡◌, ℕ, ◌+◌, ◌-◌, ◌≤◌, List, length, take, drop, Some, None, Option}

-- how many bytes may stand between two neighbouring words; without a greatest count the gap is open
pub record Gap : Type 0 where
  pub least : ℕ
  pub greatest : Option ℕ

-- the words of a landmark, with the gaps between them
pub data Pattern : Type 0 where
  last : List ℕ → Pattern
  then : List ℕ → Gap → Pattern → Pattern

-- the word ends at e: its bytes are the image bytes up to and including byte e
abbrev pub Ends : List ℕ → List ℕ → ℕ → Type 0
Ends w image e = (length w ≤ e) × (e ≤ length image) × (take (length w) (drop (e - length w) image) ≡ w)

-- start lies at most so far after the end p
abbrev pub AtMost : Option ℕ → ℕ → ℕ → Type 0
AtMost None p start = Unit {0}
AtMost (Some greatest) p start = start ≤ p + greatest

-- a word that starts at `start` keeps the gap after the end p of the word before it
abbrev pub Keeps : Gap → ℕ → ℕ → Type 0
Keeps g p start = (p + g.least ≤ start) × AtMost g.greatest p start

-- ends can be picked for the rest of a landmark, its first word behind the gap g after p, its last ending at e
abbrev pub GoesOn : Gap → ℕ → Pattern → List ℕ → ℕ → Type 0
GoesOn g p (last w) image e = Ends w image e × Keeps g p (e - length w)
GoesOn g p (then w h rest) image e = (q : ℕ) × Ends w image q × Keeps g p (q - length w) × GoesOn h q rest image e

-- an occurrence whose last word ends at e
abbrev pub Occurs : Pattern → List ℕ → ℕ → Type 0
Occurs (last w) image e = Ends w image e
Occurs (then w g rest) image e = (p : ℕ) × Ends w image p × GoesOn g p rest image e

-- e is the smallest end of an occurrence
pub record Smallest (p : Pattern) (image : List ℕ) (e : ℕ) : Type 0 where
  pub occurs : Occurs p image e
  pub least : (d : ℕ) → Occurs p image d → e ≤ d

-- a landmark's end: the smallest end of its occurrences, or none where it has no occurrence
abbrev pub IsEnd : Pattern → List ℕ → Option ℕ → Type 0
IsEnd p image (Some e) = Smallest p image e
IsEnd p image None = (e : ℕ) → Occurs p image e → ⊥
