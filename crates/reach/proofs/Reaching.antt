-- A word is reached from the word before it.
use Rattle.std.proofs.Common.{◌≡◌, ℕ, zero, suc, ◌-◌, ◌<◌, ◌≤◌, List, ◌++◌, length, take, drop, sym, refl, ap, ◌∙◌, subst, arith}
use Rattle.std.proofs.lemmas.List.{length-append, length-drop, take-append-le, drop-append-le}
use Rattle.occurrence.specs.Occurrence.{Gap, Pattern, last, then, Ends, Keeps, GoesOn, Occurs}
use Rattle.reach.specs.Laws.{ReachingLaw}
use Rattle.reach.specs.Reached.{more_words, nth_word, gap_behind, up_to, Reached, ReachedFrom}

-- the same behind a gap g after an end p
abbrev GoesFrom : Gap → ℕ → Pattern → ℕ → List ℕ → ℕ → Type 0
GoesFrom g p rest j image e =
    (q : ℕ) × Ends (nth_word rest (suc j)) image e × GoesOn g p (up_to j rest) image q × Keeps (gap_behind rest j) q (e - length (nth_word rest (suc j)))

goes_from : (g : Gap) (p : ℕ) (rest : Pattern) (j : ℕ) (image : List ℕ) (e : ℕ) → j < more_words rest → GoesOn g p (up_to (suc j) rest) image e → GoesFrom g p rest j image e
goes_from g p (last w) j image e h o = absurd (omega arith)
goes_from g p (then w k (last v)) zero image e h (q, ends, keeps, goes) = (q, goes.0, (ends, keeps), goes.1)
goes_from g p (then w k (last v)) (suc j) image e h o = absurd (omega arith)
goes_from g p (then w k (then v l rest)) zero image e h (q, ends, keeps, goes) = (q, goes.0, (ends, keeps), goes.1)
goes_from g p (then w k (then v l rest)) (suc j) image e h (q, ends, keeps, goes) =
    let (r, there, reached, kept) = goes_from k q (then v l rest) j image e (omega arith) goes in
    (r, there, (q, ends, keeps, reached), kept)

goes_to : (g : Gap) (p : ℕ) (rest : Pattern) (j : ℕ) (image : List ℕ) (e : ℕ) → j < more_words rest → GoesFrom g p rest j image e → GoesOn g p (up_to (suc j) rest) image e
goes_to g p (last w) j image e h o = absurd (omega arith)
goes_to g p (then w k (last v)) zero image e h (q, there, (ends, keeps), kept) = (q, ends, keeps, (there, kept))
goes_to g p (then w k (last v)) (suc j) image e h o = absurd (omega arith)
goes_to g p (then w k (then v l rest)) zero image e h (q, there, (ends, keeps), kept) = (q, ends, keeps, (there, kept))
goes_to g p (then w k (then v l rest)) (suc j) image e h (r, there, (q, ends, keeps, reached), kept) =
    (q, ends, keeps, goes_to k q (then v l rest) j image e (omega arith) (r, there, reached, kept))

-- word j + 1 is reached exactly from where word j is reached
pub reached_from : (p : Pattern) (j : ℕ) (image : List ℕ) (e : ℕ) → j < more_words p → Reached p (suc j) image e → ReachedFrom p j image e
reached_from (last w) j image e h o = absurd (omega arith)
reached_from (then w g (last v)) zero image e h (q, ends, goes) = (q, goes.0, ends, goes.1)
reached_from (then w g (last v)) (suc j) image e h o = absurd (omega arith)
reached_from (then w g (then v l rest)) zero image e h (q, ends, goes) = (q, goes.0, ends, goes.1)
reached_from (then w g (then v l rest)) (suc j) image e h (q, ends, goes) =
    let (r, there, reached, kept) = goes_from g q (then v l rest) j image e (omega arith) goes in
    (r, there, (q, ends, reached), kept)

pub reached_to : (p : Pattern) (j : ℕ) (image : List ℕ) (e : ℕ) → j < more_words p → ReachedFrom p j image e → Reached p (suc j) image e
reached_to (last w) j image e h o = absurd (omega arith)
reached_to (then w g (last v)) zero image e h (q, there, ends, kept) = (q, ends, (there, kept))
reached_to (then w g (last v)) (suc j) image e h o = absurd (omega arith)
reached_to (then w g (then v l rest)) zero image e h (q, there, ends, kept) = (q, ends, (there, kept))
reached_to (then w g (then v l rest)) (suc j) image e h (r, there, (q, ends, reached), kept) =
    (q, ends, goes_to g q (then v l rest) j image e (omega arith) (r, there, reached, kept))

-- a landmark cut off behind its last word is whole
pub up_to-last : (p : Pattern) → up_to (more_words p) p ≡ p
up_to-last (last w) = refl
up_to-last (then w g rest) = ap (then w g) (up_to-last rest)

-- the first word is reached where it ends
pub reached_first : (p : Pattern) (image : List ℕ) (e : ℕ) → (Reached p 0 image e → Ends (nth_word p 0) image e) × (Ends (nth_word p 0) image e → Reached p 0 image e)
reached_first (last w) image e = (λ h. h, λ h. h)
reached_first (then w g rest) image e = (λ h. h, λ h. h)

-- an end is told by the bytes up to it
pub ends-longer : (w image more : List ℕ) (e : ℕ) → Ends w image e → Ends w (image ++ more) e
ends-longer w image more e (fits, within, is) =
    let size = length-append image more in
    let from : drop (e - length w) (image ++ more) ≡ drop (e - length w) image ++ more = drop-append-le (e - length w) image more (omega arith) in
    let there : take (length w) (drop (e - length w) image ++ more) ≡ take (length w) (drop (e - length w) image) = take-append-le (length w) (drop (e - length w) image) more (omega (arith, length-drop (e - length w) image)) in
    (fits, omega arith, ap (take (length w)) from ∙ there ∙ is)

pub ends-shorter : (w image more : List ℕ) (e : ℕ) → e ≤ length image → Ends w (image ++ more) e → Ends w image e
ends-shorter w image more e h (fits, within, is) =
    let from : drop (e - length w) (image ++ more) ≡ drop (e - length w) image ++ more = drop-append-le (e - length w) image more (omega arith) in
    let there : take (length w) (drop (e - length w) image ++ more) ≡ take (length w) (drop (e - length w) image) = take-append-le (length w) (drop (e - length w) image) more (omega (arith, length-drop (e - length w) image)) in
    (fits, h, sym there ∙ sym (ap (take (length w)) from) ∙ is)

goes_longer : (g : Gap) (p : ℕ) (rest : Pattern) (image more : List ℕ) (e : ℕ) → GoesOn g p rest image e → GoesOn g p rest (image ++ more) e
goes_longer g p (last w) image more e (ends, keeps) = (ends-longer w image more e ends, keeps)
goes_longer g p (then w k rest) image more e (q, ends, keeps, goes) = (q, ends-longer w image more q ends, keeps, goes_longer k q rest image more e goes)

-- and so is an occurrence
pub occurs-longer : (p : Pattern) (image more : List ℕ) (e : ℕ) → Occurs p image e → Occurs p (image ++ more) e
occurs-longer (last w) image more e ends = ends-longer w image more e ends
occurs-longer (then w g rest) image more e (q, ends, goes) = (q, ends-longer w image more q ends, goes_longer g q rest image more e goes)

-- a landmark goes on no further back than the end before it
goes_after : (g : Gap) (p : ℕ) (rest : Pattern) (image : List ℕ) (e : ℕ) → GoesOn g p rest image e → p ≤ e
goes_after g p (last w) image e (ends, keeps) = omega arith
goes_after g p (then w k rest) image e (q, ends, keeps, goes) = let later = goes_after k q rest image e goes in omega arith

goes_shorter : (g : Gap) (p : ℕ) (rest : Pattern) (image more : List ℕ) (e : ℕ) → e ≤ length image → GoesOn g p rest (image ++ more) e → GoesOn g p rest image e
goes_shorter g p (last w) image more e h (ends, keeps) = (ends-shorter w image more e h ends, keeps)
goes_shorter g p (then w k rest) image more e h (q, ends, keeps, goes) =
    let later = goes_after k q rest (image ++ more) e goes in
    (q, ends-shorter w image more q (omega arith) ends, keeps, goes_shorter k q rest image more e h goes)

pub occurs-shorter : (p : Pattern) (image more : List ℕ) (e : ℕ) → e ≤ length image → Occurs p (image ++ more) e → Occurs p image e
occurs-shorter (last w) image more e h ends = ends-shorter w image more e h ends
occurs-shorter (then w g rest) image more e h (q, ends, goes) =
    let later = goes_after g q rest (image ++ more) e goes in
    (q, ends-shorter w image more q (omega arith) ends, goes_shorter g q rest image more e h goes)

pub reaching_law : ReachingLaw
reaching_law p = record {
  first = reached_first p;
  next = λ j image e h. (reached_from p j image e h, reached_to p j image e h);
  last = λ image e. (subst (λ q. Occurs q image e) (up_to-last p), subst (λ q. Occurs q image e) (sym (up_to-last p)));
}
