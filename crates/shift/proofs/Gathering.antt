-- Gathering the number of a byte value, from the last byte on.
use Rattle.std.proofs.Common.{◌≡◌, ℕ, ◌+◌, ◌*◌, ◌%◌, ◌^◌, ◌<◌, ◌≤◌, cond, eqb, List, [], ◌∷◌, ◌++◌, map, length, sym, refl, ap, ◌∙◌, subst, mod-eq_of_lt, pow_mono, add-one, arith, Bor}
use native.Mathlib.Nat.{pow-succ'}
use lib.Bits.{bit_or, or_zero_r}
use Rattle.std.proofs.lemmas.Nat.{or_shifted}
use Rattle.std.proofs.lemmas.List.{length-append, append_assoc, append-nil, map-append}
use Rattle.std.proofs.lemmas.List.Folds.{concat-append}
use Rattle.std.proofs.lemmas.Bool.{eq-eqb, ne_eqb, cond-true, cond-false}
use Rattle.std.proofs.lemmas.Bool.Decides.{nat_tests}
use Rattle.landmark.specs.Grammar.{sizes}
use Rattle.shift.specs.Table.{all_bytes, number_of}

-- the bytes of all words are as many as their lengths sum up to
pub length-all_bytes : (ws : List (List ℕ)) → length (all_bytes ws) ≡ sizes ws
length-all_bytes [] = refl
length-all_bytes (w ∷ ws) = let rest = length-all_bytes ws in length-append w (all_bytes ws) ∙ omega arith

-- one more word at the end
pub all_bytes-last : (slices : List (Bor (List ℕ))) (word : Bor (List ℕ)) → all_bytes (map (λ s. s.now) (slices ++ (word ∷ []))) ≡ all_bytes (map (λ s. s.now) slices) ++ word.now
all_bytes-last slices word = simp (map-append, concat-append, append-nil)

-- one more power of two
pub pow_more : (p : ℕ) → 2 ^ (p + 1) ≡ 2 * 2 ^ p
pow_more p = ap (λ (j : ℕ). 2 ^ j) (add-one p) ∙ pow-succ' 2 p

-- a number has a bit for each byte
number_of-small : (bytes : List ℕ) (c : ℕ) → number_of bytes c < 2 ^ length bytes
number_of-small [] c = omega arith
number_of-small (b ∷ bs) c =
    let rest = number_of-small bs c in
    let twice = pow-succ' 2 (length bs) in
    grind (arith, nat_tests)

-- all bytes are those in front and others behind, and the number of c among these is gathered
pub record Gathered (front all : List ℕ) (c bits : ℕ) : Type 0 where
  pub behind : List ℕ
  pub whole : front ++ behind ≡ all
  pub number : bits ≡ number_of behind c

-- behind the last byte nothing is gathered
pub gathered_none : (all : List ℕ) (c : ℕ) → Gathered all all c 0
gathered_none all c = record { behind = []; whole = append-nil all; number = refl }

-- with no byte in front the number is
pub gathered_all : (all : List ℕ) (c bits : ℕ) → Gathered [] all c bits → bits ≡ number_of all c
gathered_all all c bits g = g.number ∙ ap (λ bs. number_of bs c) g.whole

-- with a byte in front not all places are taken
pub gathered_room : (front all : List ℕ) (b c bits : ℕ) (g : Gathered (front ++ (b ∷ [])) all c bits) → length g.behind < length all
gathered_room front all b c bits g = omega (arith, ap length (sym (append_assoc front (b ∷ []) g.behind) ∙ g.whole), length-append front (b ∷ g.behind))

-- one more byte, with its bit below the others
pub gathered_more : (front all : List ℕ) (b c bits digit : ℕ) → length all ≤ 64 → digit ≡ cond (eqb b c) 1 0 → Gathered (front ++ (b ∷ [])) all c bits → Gathered front all c (bit_or (bits * 2 % 2 ^ 64) digit)
gathered_more front all b c bits digit narrow is g =
    let whole = append_assoc front (b ∷ []) g.behind in
    let few : length g.behind ≤ 63 = omega (arith, gathered_room front all b c bits g) in
    let room : 2 ^ length g.behind ≤ 2 ^ 63 = pow_mono few in
    let small = number_of-small g.behind c in
    let same = g.number in
    let kept : bits * 2 % 2 ^ 64 ≡ bits * 2 ^ 1 = mod-eq_of_lt (omega arith) ∙ omega arith in
    let one : digit < 2 ^ 1 = grind (arith, nat_tests) in
    let put = ap (λ (n : ℕ). bit_or n digit) kept ∙ or_shifted bits 1 digit one in
    record { behind = b ∷ g.behind; whole = sym whole ∙ g.whole; number = put ∙ omega arith }

-- where it is c, its bit is put
pub gathered_same : (front all : List ℕ) (b c bits : ℕ) → length all ≤ 64 → b ≡ c → Gathered (front ++ (b ∷ [])) all c bits → Gathered front all c (bit_or (bits * 2 % 2 ^ 64) 1)
gathered_same front all b c bits narrow is = gathered_more front all b c bits 1 narrow (sym (cond-true _ _ _ (eq-eqb b c is)))

-- where it is not, no bit is put
pub gathered_other : (front all : List ℕ) (b c bits : ℕ) → length all ≤ 64 → (b ≡ c → ⊥) → Gathered (front ++ (b ∷ [])) all c bits → Gathered front all c (bits * 2 % 2 ^ 64)
gathered_other front all b c bits narrow other g = subst (Gathered front all c) (or_zero_r (bits * 2 % 2 ^ 64)) (gathered_more front all b c bits 0 narrow (sym (cond-false _ _ _ (ne_eqb b c other))) g)
