-- Questions asked of the numbers of a window under masks, and what they say of the ends.
use Rattle.std.proofs.Common.{◌≡◌, ℕ, ◌+◌, ◌-◌, ◌*◌, ◌/◌, ◌%◌, ◌^◌, ◌<◌, ◌≤◌, min, ◌≢◌, ◌⊎◌, List, [], length, get_or, sym, ap, ◌∙◌, subst, inl, inr, ⊎_elim, w64, arith}
use lib.Bits.{bit_and, and_le_r}
use Rattle.std.proofs.lemmas.List.{get_or_past}
use Rattle.std.proofs.lemmas.Bool.{cases_eq, cases_lt}
use Rattle.std.specs.Prelude.{EachIndex}
use Rattle.finder.specs.Meaning.{ExactlyIf, Bit}
use Rattle.bits.proofs.Bits.{bit-both, bit-of_zero}
use Rattle.std.specs.Int.{bit_at, trailing_zeros}
use Rattle.std.proofs.lemmas.Nat.Bits.{bit_at-trailing_zeros}
use Rattle.window.specs.Windows.{number_bits, numbers, span, words, BitOf, Marked, NoBit}
use Rattle.window.specs.Bits.{Masks, SomeBit, SomeBitAround, SomeBitIn}

-- number i under the mask of its bits from first to last is not 0 exactly if one of these bits is set
pub number_asked : (window : List ℕ) (i first last from to m : ℕ) → first / number_bits ≤ i → i ≤ last / number_bits → from ≡ first - number_bits * i → to ≡ min (last - number_bits * i) (number_bits - 1) → m < 2 ^ number_bits → Masks from to m
    → ExactlyIf (bit_and (get_or window i 0) m ≢ 0) (SomeBitIn window i first last)
number_asked window i first last from to m low high from-is to-is small mask =
    let n = get_or window i 0 in (
      λ some.
          let j : ℕ = trailing_zeros w64 (bit_and n m) in
          let (within, set, _) = bit_at-trailing_zeros w64 (bit_and n m) (omega arith) (omega (arith, and_le_r n m)) in
          let (own, asked) = (bit-both n m j).0 set in
          let (at-least, at-most) = (mask j within).0 asked in
          let b : ℕ = number_bits * i + j in
          let row : b / number_bits ≡ i = omega arith in
          let column : b % number_bits ≡ j = omega arith in
          (b, omega arith, omega arith, row, ap (λ (r : ℕ). bit_at (get_or window r 0) (b % number_bits)) row ∙ ap (bit_at n) column ∙ own),
      λ (b, at-least, at-most, row, set) none.
          let j : ℕ = b % number_bits in
          let own : Bit n j = ap (λ (r : ℕ). bit_at (get_or window r 0) j) (sym row) ∙ set in
          let asked : Bit m j = (mask j (omega arith)).1 (omega arith, omega arith) in
          bit-of_zero j (ap (λ (r : ℕ). bit_at r j) (sym none) ∙ (bit-both n m j).1 (own, asked)),
    )

-- as many ends as a window has bits, or more: all bits are asked for
pub around_all : (window : List ℕ) (low high : ℕ) → low ≤ high → span - 1 ≤ high - low → ExactlyIf (SomeBit window 0 (span - 1)) (SomeBitAround window low high)
around_all window low high order many = (
  λ (b, _, last, set).
      let e : ℕ = low + (b + span - low % span) % span in
      let same : e % span ≡ b = omega arith in
      (e, omega arith, omega arith, subst (BitOf window) (sym same) set),
  λ (e, _, _, set). (e % span, omega arith, omega arith, set),
)

-- few ends that do not go around the window's end
pub around_straight : (window : List ℕ) (low high : ℕ) → low ≤ high → high - low < span - 1 → low % span ≤ high % span → ExactlyIf (SomeBit window (low % span) (high % span)) (SomeBitAround window low high)
around_straight window low high order few straight = (
  λ (b, first, last, set).
      let e : ℕ = low + (b - low % span) in
      let same : e % span ≡ b = omega arith in
      (e, omega arith, omega arith, subst (BitOf window) (sym same) set),
  λ (e, from, to, set). (e % span, omega arith, omega arith, set),
)

-- few ends that go around it: the bits up to its end, or those from its beginning
pub around_end : (window : List ℕ) (low high : ℕ) → low ≤ high → high - low < span - 1 → high % span < low % span → ExactlyIf (SomeBit window (low % span) (span - 1) ⊎ SomeBit window 0 (high % span)) (SomeBitAround window low high)
around_end window low high order few around = (
  ⊎_elim (λ (b, first, last, set).
      let e : ℕ = low + (b - low % span) in
      let same : e % span ≡ b = omega arith in
      (e, omega arith, omega arith, subst (BitOf window) (sym same) set))
      (λ (b, first, last, set).
      let e : ℕ = high - (high % span - b) in
      let same : e % span ≡ b = omega arith in
      (e, omega arith, omega arith, subst (BitOf window) (sym same) set)),
  λ (e, from, to, set). ⊎_elim (λ below. inr (e % span, omega arith, omega arith, set)) (λ up. inl (e % span, omega arith, omega arith, set)) (cases_lt (e % span) (low % span)),
)

-- a word that has no window is never marked
pub none_marked_past : (xs : List (List ℕ)) (k b : ℕ) → length xs ≡ words → words ≤ k → Marked xs k b → ⊥
none_marked_past xs k b whole past set =
    bit-of_zero (b % number_bits) (ap (λ (w : List ℕ). bit_at (get_or w (b / number_bits) 0) (b % number_bits)) (sym (get_or_past xs k [] (omega arith))) ∙ set)

-- where every number of a window is 0, and only there, no bit is set
pub no_bit : (window : List ℕ) → ((i : ℕ) → get_or window i 0 < 2 ^ number_bits) → length window ≡ numbers → ExactlyIf (EachIndex window (λ i. get_or window i 0 ≡ 0)) (NoBit window)
no_bit window fits size = (
  λ zero b small set. bit-of_zero (b % number_bits) (ap (λ (n : ℕ). bit_at n (b % number_bits)) (sym (zero (b / number_bits) (omega arith))) ∙ set),
  λ none i within. ⊎_elim (λ zero. zero) (λ some.
      let j : ℕ = trailing_zeros w64 (get_or window i 0) in
      let (below, set, _) = bit_at-trailing_zeros w64 (get_or window i 0) (omega arith) (fits i) in
      let b : ℕ = number_bits * i + j in
      let row : b / number_bits ≡ i = omega arith in
      let column : b % number_bits ≡ j = omega arith in
      absurd (none b (omega arith) (ap (λ (r : ℕ). bit_at (get_or window r 0) (b % number_bits)) row ∙ ap (bit_at (get_or window i 0)) column ∙ set)))
      (cases_eq (get_or window i 0) 0),
)
