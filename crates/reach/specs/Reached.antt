-- Where the words of a landmark are reached.
use Rattle.std.specs.Prelude.{ℕ, zero, suc, ◌-◌, List, length, Some}
use Rattle.occurrence.specs.Occurrence.{Gap, Pattern, last, then, Ends, Keeps, Occurs}

-- how many words a landmark has behind its first
abbrev pub more_words : Pattern → ℕ
more_words (last w) = 0
more_words (then w g rest) = suc (more_words rest)

-- word j of a landmark, from 0; the last one past the end
abbrev pub nth_word : Pattern → ℕ → List ℕ
nth_word (last w) j = w
nth_word (then w g rest) zero = w
nth_word (then w g rest) (suc j) = nth_word rest j

-- the gap behind word j
abbrev pub gap_behind : Pattern → ℕ → Gap
gap_behind (last w) j = record { least = 0; greatest = Some 0 }
gap_behind (then w g rest) zero = g
gap_behind (then w g rest) (suc j) = gap_behind rest j

-- the landmark cut off behind word j
abbrev pub up_to : ℕ → Pattern → Pattern
up_to j (last w) = last w
up_to zero (then w g rest) = last w
up_to (suc j) (then w g rest) = then w g (up_to j rest)

-- word j is reached at e: an end at e can be picked for it, with ends for the words before it
abbrev pub Reached : Pattern → ℕ → List ℕ → ℕ → Type 0
Reached p j image e = Occurs (up_to j p) image e

-- word j + 1 ends at e behind the gap after some end at which word j is reached
abbrev pub ReachedFrom : Pattern → ℕ → List ℕ → ℕ → Type 0
ReachedFrom p j image e =
    (q : ℕ) × Ends (nth_word p (suc j)) image e × Reached p j image q × Keeps (gap_behind p j) q (e - length (nth_word p (suc j)))
