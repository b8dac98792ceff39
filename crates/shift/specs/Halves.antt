-- The half lists that a register holds: one to a word, each with 0.
use Rattle.std.specs.Prelude.{◌≡◌, ℕ, zero, suc, ◌+◌, ◌<◌, true, List, [], ◌∷◌, length, slice_index_or, refl}
use Rattle.std.proofs.Common.{ap, arith}
use Rattle.finder.specs.Words.{holds}
use Rattle.shift.specs.Register.{halves_from}

-- there are as many half lists as words
pub halves_paired : (start : ℕ) (ws : List (List ℕ)) (r : ℕ) → length (halves_from start ws r) ≡ length ws
halves_paired start [] r = refl
halves_paired start (w ∷ ws) r = ap suc (halves_paired (start + length w) ws r)

-- each holds 0
pub halves_begun : (start : ℕ) (ws : List (List ℕ)) (r k : ℕ) → k < length ws → holds 0 (slice_index_or (halves_from start ws r) k []) ≡ true
halves_begun start [] r k within = absurd (omega arith)
halves_begun start (w ∷ ws) r zero within = refl
halves_begun start (w ∷ ws) r (suc k) within = halves_begun (start + length w) ws r k (omega arith)
