-- Gathering where the words begin and end, word by word.
use Rattle.std.proofs.Common.{◌≡◌, ℕ, ◌+◌, ◌-◌, ◌*◌, ◌%◌, ◌^◌, ◌<◌, ◌≤◌, List, ◌∷◌, map, length, get_or, drop, ap, ◌∙◌, subst, lt_of_lt_of_le, arith, pow_mono, pow-add, Bor}
use lib.Bits.{bit_or, or_shifted_r}
use Rattle.std.proofs.lemmas.Nat.{one_shl}
use Rattle.std.proofs.lemmas.List.{drop_more, drop_all}
use Rattle.landmark.specs.Grammar.{sizes}
use Rattle.shift.specs.Register.{firsts_of, lasts_of}

-- the bits of the words in the first p run bytes are gathered, and the rest follows
pub record Edged (ws : List (List ℕ)) (firsts lasts p : ℕ) (rest : List (List ℕ)) : Type 0 where
  pub small : firsts < 2 ^ p
  pub little : lasts < 2 ^ p
  pub begins : firsts + 2 ^ p * firsts_of rest ≡ firsts_of ws
  pub ends : lasts + 2 ^ p * lasts_of rest ≡ lasts_of ws
  pub place : p + sizes rest ≡ sizes ws

-- before the first word nothing is gathered
pub edged_none : (ws : List (List ℕ)) → Edged ws 0 0 0 ws
edged_none ws = record { small = omega arith; little = omega arith; begins = omega arith; ends = omega arith; place = omega arith }

-- a bit above all others is added by an or
put-bit : (n p q : ℕ) → n < 2 ^ p → p ≤ q → q < 64 → bit_or n (1 * 2 ^ q % 2 ^ 64) ≡ n + 2 ^ q
put-bit n p q small above few =
    ap (bit_or n) (one_shl q 64 few ∙ omega arith) ∙ or_shifted_r 1 q n (lt_of_lt_of_le small (pow_mono above)) ∙ omega arith

-- one more word
edged_word : (ws : List (List ℕ)) (firsts lasts p : ℕ) (w : List ℕ) (rest : List (List ℕ)) → sizes ws ≤ 64 → 0 < length w → Edged ws firsts lasts p (w ∷ rest)
    → Edged ws (bit_or firsts (1 * 2 ^ p % 2 ^ 64)) (bit_or lasts (1 * 2 ^ (p + length w - 1) % 2 ^ 64)) (p + length w) rest
edged_word ws firsts lasts p w rest narrow some g =
    let n = length w - 1 in
    let room = g.place in
    let first = put-bit firsts p p g.small (omega arith) (omega arith) in
    let last = put-bit lasts p (p + length w - 1) g.little (omega arith) (omega arith) in
    let split : 2 ^ (p + length w) ≡ 2 ^ p * 2 ^ length w = pow-add 2 p (length w) in
    let under : 2 ^ (p + length w - 1) ≡ 2 ^ p * 2 ^ n = ap (λ (j : ℕ). 2 ^ j) (omega arith) ∙ pow-add 2 p n in
    let twice : 2 ^ length w ≡ 2 * 2 ^ n = ap (λ (j : ℕ). 2 ^ j) (omega arith) ∙ pow-add 2 1 n in
    let whole : 2 ^ p * 2 ^ length w ≡ 2 * (2 ^ p * 2 ^ n) = ap (λ (x : ℕ). 2 ^ p * x) twice ∙ omega arith in
    let grown : 2 ^ p ≤ 2 ^ p * 2 ^ n = subst (λ (x : ℕ). 2 ^ p ≤ x) (pow-add 2 p n) (pow_mono (omega arith)) in
    record {
      small = rw (first, split) (omega (arith, g.small));
      little = rw (last, split, under) (omega (arith, g.little));
      begins = rw (first, split) (omega (arith, g.begins));
      ends = rw (last, split, under) (omega (arith, g.ends));
      place = omega arith;
    }

-- at slice k
module _ (ws : List (List ℕ)) (firsts lasts p k : ℕ) (slices : List (Bor (List ℕ))) (other : Bor (List ℕ)) (within : k < length slices) (g : Edged ws firsts lasts p (map (λ s. s.now) (drop k slices))) where
  -- the next word is that slice
  next : Edged ws firsts lasts p ((get_or slices k other).now ∷ map (λ s. s.now) (drop (k + 1) slices))
  next = subst (λ rest. Edged ws firsts lasts p (map (λ s. s.now) rest)) (drop_more slices k other within) g

  -- it has room
  pub edged_room : p + length (get_or slices k other).now ≤ sizes ws
  edged_room = omega (arith, next.place)

  -- and its first and its last bit are put
  pub edged_more : sizes ws ≤ 64 → 0 < length (get_or slices k other).now
      → Edged ws (bit_or firsts (1 * 2 ^ p % 2 ^ 64)) (bit_or lasts (1 * 2 ^ (p + length (get_or slices k other).now - 1) % 2 ^ 64)) (p + length (get_or slices k other).now) (map (λ s. s.now) (drop (k + 1) slices))
  edged_more narrow some = edged_word ws firsts lasts p (get_or slices k other).now (map (λ s. s.now) (drop (k + 1) slices)) narrow some next

-- behind the last word all bits are gathered
pub edged_all : (ws : List (List ℕ)) (firsts lasts p k : ℕ) → length ws ≤ k → Edged ws firsts lasts p (drop k ws) → (firsts ≡ firsts_of ws) × (lasts ≡ lasts_of ws)
edged_all ws firsts lasts p k past g =
    let done = subst (Edged ws firsts lasts p) (drop_all k ws past) g in
    (omega (arith, done.begins), omega (arith, done.ends))
