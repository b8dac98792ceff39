-- That the two definitions of an occurrence agree.
use Rattle.std.proofs.Common.{◌≡◌, ℕ, ◌+◌, ◌-◌, List, [], ◌++◌, length, take, drop, Some, None, Option, sym, refl, ap, ◌∙◌, subst, arith}
use Rattle.std.proofs.lemmas.List.{append_assoc, append-nil, length-append, length-drop, length-take-le, take-append-drop, take_at, drop_at, drop-drop, drop-append-le}
use Rattle.occurrence.specs.Occurrence.{Gap, Pattern, last, then, Ends, AtMost, Keeps, GoesOn, Occurs}
use Rattle.occurrence.specs.Parts.{NoMoreThan, Allows, Spells, InParts}
use Rattle.occurrence.specs.Laws.{OccursInParts}

-- around a word that ends at e, the image is what lies before it, the word, and what lies behind it
pub parts_from-ends : (w image : List ℕ) (e : ℕ) → Ends w image e → image ≡ take (e - length w) image ++ (w ++ drop e image)
parts_from-ends w image e (fits, within, is) =
    let whole = take-append-drop (e - length w) image in
    let word = take-append-drop (length w) (drop (e - length w) image) in
    let behind = drop-drop (length w) (e - length w) image in
    let stop : e - length w + length w ≡ e = omega arith in
    cc

-- a word ends where it stands in the image
pub ends-from_parts : (w image front more : List ℕ) (e : ℕ) → image ≡ front ++ (w ++ more) → e ≡ length front + length w → Ends w image e
ends-from_parts w image front more e whole stop =
    let behind = drop_at front (w ++ more) (e - length w) (omega arith) in
    let word = take_at w more (length w) refl in
    (omega arith, omega (arith, simp length-append at (ap length whole)), cc)

-- a start n bytes after the end p keeps a gap exactly if the gap allows n bytes
pub keeps-allows : (g : Gap) (p n start : ℕ) → start ≡ p + n → (Keeps g p start → Allows g n) × (Allows g n → Keeps g p start)
keeps-allows g p n start at = (λ (low, high). (omega arith, (most g.greatest).0 high), λ (low, high). (omega arith, (most g.greatest).1 high))
  where
    most : (greatest : Option ℕ) → (AtMost greatest p start → NoMoreThan greatest n) × (NoMoreThan greatest n → AtMost greatest p start)
    most None = (λ _. tt, λ _. tt)
    most (Some greatest) = (λ l. omega arith, λ l. omega arith)

-- the image is put together, and the first word keeps the gap g after p
abbrev Behind : Gap → ℕ → Pattern → List ℕ → ℕ → Type 0
Behind g p rest image e = (parts : InParts rest image e) × Keeps g p (length parts.0)

-- a first word that ends at q, with bytes behind it that complete the spelling, puts the image together so
behind_from_word : (g : Gap) (p : ℕ) (rest : Pattern) (w more back image : List ℕ) (q e : ℕ) → Ends w image q → Keeps g p (q - length w) → drop q image ≡ more ++ back → e ≡ q + length more → Spells rest (w ++ more) → Behind g p rest image e
behind_from_word g p rest w more back image q e ends-here kept behind stop spelt =
    let whole = parts_from-ends w image q ends-here in
    let size = length-take-le (q - length w) image (omega arith) in
    let around : image ≡ take (q - length w) image ++ ((w ++ more) ++ back) = simp append_assoc (cc) in
    ((take (q - length w) image, w ++ more, back, around, omega (arith, length-append w more), spelt), subst (Keeps g p) (sym size) kept)

-- ends that can be picked put the image together
behind_from_goes : (g : Gap) (p : ℕ) (rest : Pattern) (image : List ℕ) (e : ℕ) → GoesOn g p rest image e → Behind g p rest image e
behind_from_goes g p (last w) image e (ends-here, kept) = behind_from_word g p (last w) w [] (drop e image) image e e ends-here kept refl (omega arith) (append-nil w)
behind_from_goes g p (then w h rest) image e (q, ends-here, kept, goes) =
    let (parts, gap-kept) = behind_from_goes h q rest image e goes in
    let (front, bytes, back, whole, stop, spelt) = parts in
    let size = length-drop q front in
    let behind : drop q image ≡ (drop q front ++ bytes) ++ back = simp append_assoc (ap (drop q) whole ∙ drop-append-le q front (bytes ++ back) (omega arith)) in
    let allowed = (keeps-allows h q (length (drop q front)) (length front) (omega arith)).0 gap-kept in
    behind_from_word g p (then w h rest) w (drop q front ++ bytes) back image q e ends-here kept behind (omega (arith, length-append (drop q front) bytes)) (drop q front, bytes, refl, allowed, spelt)

-- an image that is put together has ends that can be picked
goes_from_behind : (g : Gap) (p : ℕ) (rest : Pattern) (image : List ℕ) (e : ℕ) → Behind g p rest image e → GoesOn g p rest image e
goes_from_behind g p (last w) image e ((front, bytes, back, whole, stop, spelt), kept) =
    let size = ap length spelt in
    (ends-from_parts w image front back e (cc) (omega arith), subst (Keeps g p) (omega arith) kept)
goes_from_behind g p (then w h rest) image e ((front, bytes, back, whole, stop, (filler, more, is, allowed, spelt)), kept) =
    let q : ℕ = length front + length w in
    let size : length (front ++ w ++ filler) ≡ q + length filler = simp length-append in
    let around : image ≡ front ++ (w ++ (filler ++ (more ++ back))) = whole ∙ ap (λ b. front ++ (b ++ back)) is ∙ simp append_assoc in
    let gap-kept = (keeps-allows h q (length filler) (length (front ++ w ++ filler)) size).1 allowed in (
      q,
      ends-from_parts w image front (filler ++ (more ++ back)) q around refl,
      subst (Keeps g p) (omega arith) kept,
      goes_from_behind h q rest image e ((front ++ w ++ filler, more, back, simp append_assoc around, omega (arith, simp length-append at (ap length is)), spelt), gap-kept),
    )

-- the gap before a landmark's first word
abbrev any_bytes : Gap
any_bytes = record { least = 0; greatest = None }

-- an occurrence goes on behind any bytes
goes_from_occurs : (p : Pattern) (image : List ℕ) (e : ℕ) → Occurs p image e → GoesOn any_bytes 0 p image e
goes_from_occurs (last w) image e ends-here = (ends-here, (omega arith, tt))
goes_from_occurs (then w g rest) image e (q, ends-here, goes) = (q, ends-here, (omega arith, tt), goes)

-- what goes on is an occurrence
occurs-from_goes : (p : Pattern) (image : List ℕ) (e : ℕ) → GoesOn any_bytes 0 p image e → Occurs p image e
occurs-from_goes (last w) image e (ends-here, kept) = ends-here
occurs-from_goes (then w g rest) image e (q, ends-here, kept, goes) = (q, ends-here, goes)

-- an occurrence is a way to put the image together
pub occurs-in_parts : OccursInParts
occurs-in_parts p image e = (
  λ h. (behind_from_goes any_bytes 0 p image e (goes_from_occurs p image e h)).0,
  λ parts. occurs-from_goes p image e (goes_from_behind any_bytes 0 p image e (parts, (omega arith, tt))),
)
