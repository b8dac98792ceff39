-- A window against the ends at which its word was reached: none, one end more, the same ends, another word's mark, and what a question says.
use Rattle.std.proofs.Common.{◌≡◌, ℕ, ◌+◌, ◌/◌, ◌%◌, ◌<◌, ◌≤◌, Bool, List, [], get_or, replicate, Decides, sym, refl, ap, ◌∙◌, subst, ⊎_elim, arith}
use Rattle.std.proofs.lemmas.List.{get_or-replicate, get_or_past}
use Rattle.std.proofs.lemmas.Bool.{cases_eq, cases_lt}
use Rattle.finder.specs.Meaning.{ExactlyIf}
use Rattle.bits.proofs.Bits.{bit-of_zero}
use Rattle.std.specs.Int.{bit_at}
use Rattle.window.specs.Windows.{number_bits, numbers, span, words, cleared, Marked, Empty, SomeMarked, Marks, Recent, HoldsEnds}

-- two ends that are both recent and have the same bit are the same
pub same_end : (taken e d : ℕ) → Recent taken e → Recent taken d → e % span ≡ d % span → e ≡ d
same_end taken e d (_, e-past, e-recent) (_, d-past, d-recent) same = omega arith

-- where every number is 0 no bit is marked
pub cleared-empty : (k : ℕ) → Empty cleared k
cleared-empty k b small set =
    bit-of_zero (b % number_bits) (ap (λ (n : ℕ). bit_at n (b % number_bits)) (sym (⊎_elim
    (λ within. ap (λ (w : List ℕ). get_or w (b / number_bits) 0) (get_or-replicate words k (replicate numbers 0) [] within) ∙ get_or-replicate numbers (b / number_bits) 0 0 (omega arith))
    (λ past. ap (λ (w : List ℕ). get_or w (b / number_bits) 0) (get_or_past cleared k [] past))
    (cases_lt k words))) ∙ set)

-- before any byte, a window with no mark holds the ends of any word
pub holds-none : (reached : ℕ → Type 0) (xs : List (List ℕ)) (k : ℕ) → Empty xs k → HoldsEnds reached 0 xs k
holds-none reached xs k empty b small = (λ set. absurd (empty b small set), λ (e, (some, past, _), _, _). absurd (omega arith))

-- a predicate that agrees at the ends so far is held as well
pub holds-agreeing : (reached other : ℕ → Type 0) (taken : ℕ) (xs : List (List ℕ)) (k : ℕ) → ((e : ℕ) → e ≤ taken → ExactlyIf (reached e) (other e)) → HoldsEnds reached taken xs k → HoldsEnds other taken xs k
holds-agreeing reached other taken xs k agree holds b small = (
  λ set. let (e, recent, at, is) = (holds b small).0 set in (e, recent, at, (agree e recent.1).0 is),
  λ (e, recent, at, is). (holds b small).1 (e, recent, at, (agree e recent.1).1 is),
)

-- one end more, told as it was reached
pub holds_more : (reached : ℕ → Type 0) (taken : ℕ) (told : Bool) (xs ys : List (List ℕ)) (k : ℕ) → k < words → Decides told (reached (taken + 1)) → Marks xs k (taken + 1) told ys → HoldsEnds reached taken xs k → HoldsEnds reached (taken + 1) ys k
holds_more reached taken told xs ys k few right marks holds b small =
    let (as-told, as-set) = marks.told few in
    ⊎_elim
    (λ new. (
      λ set. (taken + 1, (omega arith, omega arith, omega arith), sym new, right.0 (as-told (subst (Marked ys k) new set))),
      λ (e, recent, at, is).
          let last : e ≡ taken + 1 = same_end (taken + 1) e (taken + 1) recent (omega arith, omega arith, omega arith) (at ∙ new) in
          subst (Marked ys k) (sym new) (as-set (right.1 (subst reached last is))),
    ))
    (λ old.
    let (back, there) = marks.other k b small (λ (_, new). old new) in (
      λ set.
          let (e, (some, past, recent), at, is) = (holds b small).0 (back set) in
          (e, (some, omega arith, omega arith), at, is),
      λ (e, (some, past, recent), at, is).
          let before : e ≤ taken = ⊎_elim (λ last. absurd (old (omega arith))) (λ apart. omega arith) (cases_eq e (taken + 1)) in
          there ((holds b small).1 (e, (some, before, omega arith), at, is)),
    ))
    (cases_eq b ((taken + 1) % span))

-- the same for a predicate that agrees at the ends so far
pub holds-more_agreeing : (reached other : ℕ → Type 0) (taken : ℕ) (told : Bool) (xs ys : List (List ℕ)) (k : ℕ) → k < words → ((e : ℕ) → e ≤ taken → ExactlyIf (reached e) (other e))
    → Decides told (other (taken + 1)) → Marks xs k (taken + 1) told ys → HoldsEnds reached taken xs k → HoldsEnds other (taken + 1) ys k
holds-more_agreeing reached other taken told xs ys k few agree right marks holds = holds_more other taken told xs ys k few right marks (holds-agreeing reached other taken xs k agree holds)

-- a mark in the window of one word leaves what another word's window holds
pub holds-other_word : (reached : ℕ → Type 0) (taken : ℕ) (told : Bool) (xs ys : List (List ℕ)) (k end j : ℕ) → (j ≡ k → ⊥) → Marks xs k end told ys → HoldsEnds reached taken xs j → HoldsEnds reached taken ys j
holds-other_word reached taken told xs ys k end j apart marks holds b small =
    let (back, there) = marks.other j b small (λ (same, _). apart same) in
    (λ set. (holds b small).0 (back set), λ some. there ((holds b small).1 some))

-- an empty window needs no mark where its word is not reached
pub holds-empty : (reached : ℕ → Type 0) (taken : ℕ) (xs : List (List ℕ)) (k : ℕ) → Empty xs k → (reached (taken + 1) → ⊥) → HoldsEnds reached taken xs k → HoldsEnds reached (taken + 1) xs k
holds-empty reached taken xs k empty not-now holds b small = (
  λ set. absurd (empty b small set),
  λ (e, (some, past, recent), at, is). ⊎_elim
      (λ last. absurd (not-now (subst reached last is)))
      (λ apart. (holds b small).1 (e, (some, omega arith, omega arith), at, is))
      (cases_eq e (taken + 1)),
)

-- the same for a predicate that agrees at the ends so far
pub holds-empty_agreeing : (reached other : ℕ → Type 0) (taken : ℕ) (xs : List (List ℕ)) (k : ℕ) → Empty xs k → ((e : ℕ) → e ≤ taken → ExactlyIf (reached e) (other e)) → (other (taken + 1) → ⊥) → HoldsEnds reached taken xs k → HoldsEnds other (taken + 1) xs k
holds-empty_agreeing reached other taken xs k empty agree not-now holds = holds-empty other taken xs k empty not-now (holds-agreeing reached other taken xs k agree holds)

-- of recent ends a question is answered as the word was reached
pub holds-answers : (reached : ℕ → Type 0) (taken : ℕ) (xs : List (List ℕ)) (k low high : ℕ) → 1 ≤ low → high ≤ taken → taken < low + span → HoldsEnds reached taken xs k
    → ExactlyIf (SomeMarked xs k low high) ((e : ℕ) × (low ≤ e) × (e ≤ high) × reached e)
holds-answers reached taken xs k low high first last recent holds = (
  λ (e, from, to, set).
      let (d, d-recent, at, is) = (holds (e % span) (omega arith)).0 set in
      let same : d ≡ e = same_end taken d e d-recent (omega arith, omega arith, omega arith) at in
      (e, from, to, subst reached same is),
  λ (e, from, to, is). (e, from, to, (holds (e % span) (omega arith)).1 (e, (omega arith, omega arith, omega arith), refl, is)),
)
