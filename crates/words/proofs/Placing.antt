-- The sizes of words, together and each.
use Rattle.std.proofs.Common.{◌≡◌, ℕ, zero, suc, ◌+◌, ◌*◌, ◌<◌, ◌≤◌, List, [], ◌∷◌, ◌++◌, length, get_or, arith}
use Rattle.landmark.specs.Grammar.{sizes}
use Rattle.words.specs.RunSized.{RunSized}

-- the bytes of two rows of words add up
pub sizes-append : (ws ws' : List (List ℕ)) → sizes (ws ++ ws') ≡ sizes ws + sizes ws'
sizes-append [] ws' = omega arith
sizes-append (w ∷ ws) ws' = let rest = sizes-append ws ws' in omega arith

-- words of at most so many bytes have together at most so many times their number
pub sizes-most : (most : ℕ) (ws : List (List ℕ)) → ((k : ℕ) → k < length ws → length (get_or ws k []) ≤ most) → sizes ws ≤ most * length ws
sizes-most most [] each = omega arith
sizes-most most (w ∷ ws) each =
    let this : length w ≤ most = each 0 (omega arith) in
    let rest = sizes-most most ws (λ k within. each (suc k) (omega arith)) in
    omega arith

-- one word more of a run's size leaves each word with one
pub sized-more : (ws : List (List ℕ)) (w : List ℕ) → ((k : ℕ) → k < length ws → RunSized (get_or ws k [])) → RunSized w → (k : ℕ) → k < length ws + 1 → RunSized (get_or (ws ++ (w ∷ [])) k [])
sized-more [] w each this zero within = this
sized-more [] w each this (suc k) within = absurd (omega arith)
sized-more (v ∷ ws) w each this zero within = each 0 (omega arith)
sized-more (v ∷ ws) w each this (suc k) within = sized-more ws w (λ j below. each (suc j) (omega arith)) this k (omega arith)
